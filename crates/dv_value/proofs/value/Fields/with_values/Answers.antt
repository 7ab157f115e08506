use Rattle.std.proofs.Common.{◌≡◌, ◌≤◌, length, map, sym, arith, rules}
use Rattle.std.specs.List.{zip}
use Rattle.std.proofs.lemmas.List.{length-map}
use Rattle.std.proofs.lemmas.Slice.Zip.{length-zip}
use Rattle.dv_value.specs.View.{tree}
use Rattle.dv_value.proofs.Zipped.{with_values-zip}
use Rattle.dv_value.proofs.value.Fields.with_values.Goals as goal

pub invariant_of-result : goal.invariant_of-result
invariant_of-result c =
    let names = c.self.inside.names.value in
    let own = c.self.inside.values.items in
    let values = c.args.values.items in
    let same : c.in_ok-clone.field-0.value ≡ names = search rules in
    let within : length values ≤ length (zip names (map tree own)) = rw c.self.view_is c.requires in
    let fits : length values ≤ length c.in_ok-clone.field-0.value = rw same (omega (arith, within, length-zip names (map tree own))) in
    fits

pub returns : goal.returns
returns c =
    let names = c.self.inside.names.value in
    let own = c.self.inside.values.items in
    let values = c.args.values.items in
    let same : c.in_ok-clone.field-0.value ≡ names = search rules in
    let within : length values ≤ length (zip names (map tree own)) = rw c.self.view_is c.requires in
    rw (same, ← c.self.view_is) (sym (with_values-zip names (map tree own) (map tree values) (omega (arith, within, length-map values tree))))
