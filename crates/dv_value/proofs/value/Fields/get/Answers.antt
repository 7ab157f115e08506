use Rattle.std.proofs.Common.{◌≡◌, Some, sym, map, arith}
use Rattle.std.specs.List.{zip}
use Rattle.dv_value.specs.Names.{place_under}
use Rattle.dv_value.specs.View.{tree}
use Rattle.dv_value.proofs.Named.{value_nowhere}
use Rattle.dv_value.proofs.Changed.{place_has_value, value_found}
use Rattle.dv_value.proofs.value.Fields.get.Goals as goal

pub returns-in_err-place : goal.returns-in_err-place
returns-in_err-place c =
    rw c.from_residual.ensures (sym (value_nowhere c.args.name.now c.args.self.now (sym c.in_err-place.ensures.place)))

pub index-requires : goal.index-requires
index-requires c =
    let names = c.self.inside.names.value in
    let values = c.self.inside.values in
    let found : Some c.in_ok-place.place ≡ place_under c.args.name.now (zip names (map tree values.items)) = rw c.self.view_is c.in_ok-place.ensures.place in
    omega (arith, place_has_value c.args.name.now names values.items c.in_ok-place.place found, values.ok.0)

pub returns : goal.returns
returns c =
    let names = c.self.inside.names.value in
    let values = c.self.inside.values.items in
    let found : Some c.in_ok-place.place ≡ place_under c.args.name.now (zip names (map tree values)) = rw c.self.view_is c.in_ok-place.ensures.place in
    rw (← c.self.view_is) (value_found c.args.name.now names values c.in_ok-place.place found c.index.result.now c.index.ensures)
