use Rattle.std.proofs.Common.{◌≡◌, map, take, length, arith}
use Rattle.std.proofs.lemmas.Grind.{common_steps}
use Rattle.std.proofs.lemmas.List.{length-map}
use Rattle.dv_value.specs.View.{tree}
use Rattle.dv_value.proofs.Zipped.{zip-take}
use Rattle.dv_value.proofs.value.Fields.leave_names.Goals as goal

pub returns-in-Ok : goal.returns-in-Ok
returns-in-Ok c =
    let names = c.self.inside.names.value in
    let values = c.self.inside.values.items in
    let count : c.len.result ≡ length (map tree values) = omega (arith, c.len.ensures, c.self.inside.values.ok.0, length-map values tree) in
    let own : c.in-Ok.names.value ≡ take c.len.result names = grind (arith, common_steps) in
    rw (← c.self.view_is, own, count) (zip-take names (map tree values))
