use Rattle.std.proofs.Common.{◌≡◌, Some, sym, map, arith}
use Rattle.std.specs.List.{zip}
use Rattle.std.proofs.lemmas.List.{map-set}
use Rattle.dv_value.specs.Names.{place_under}
use Rattle.dv_value.specs.View.{tree}
use Rattle.dv_value.proofs.Named.{value_nowhere}
use Rattle.dv_value.proofs.Changed.{place_has_value, value_found, with_value_under-nowhere, zip-put}
use Rattle.dv_value.proofs.value.Fields.replace.Goals as goal

pub returns-in_err-place-clause-before : goal.returns-in_err-place-clause-before
returns-in_err-place-clause-before c =
    rw c.from_residual.ensures (sym (value_nowhere c.args.name.now c.args.self.now (sym c.in_err-place.ensures.place)))

pub returns-in_err-place-clause-after : goal.returns-in_err-place-clause-after
returns-in_err-place-clause-after c = sym (with_value_under-nowhere c.args.name.now (tree c.args.value) c.args.self.now (sym c.in_err-place.ensures.place))

pub index_mut-requires : goal.index_mut-requires
index_mut-requires c =
    let names = c.self.inside.names.value in
    let values = c.self.inside.values in
    let found : Some c.in_ok-place.place ≡ place_under c.args.name.now (zip names (map tree values.items)) = rw c.self.view_is c.in_ok-place.ensures.place in
    omega (arith, place_has_value c.args.name.now names values.items c.in_ok-place.place found, values.ok.0)

pub returns-clause-before : goal.returns-clause-before
returns-clause-before c =
    let names = c.self.inside.names.value in
    let values = c.self.inside.values.items in
    let found : Some c.in_ok-place.place ≡ place_under c.args.name.now (zip names (map tree values)) = rw c.self.view_is c.in_ok-place.ensures.place in
    rw (← c.self.view_is, c.replace.ensures.value) (value_found c.args.name.now names values c.in_ok-place.place found c.index_mut.result.now c.index_mut.ensures.value)

pub returns-clause-after : goal.returns-clause-after
returns-clause-after c =
    let names = c.self.inside.names.value in
    let values = c.self.inside.values.items in
    let place = c.in_ok-place.place in
    let found : Some place ≡ place_under c.args.name.now (zip names (map tree values)) = rw c.self.view_is c.in_ok-place.ensures.place in
    rw (← c.self.view_is, c.replace.ensures.after, map-set tree values place c.args.value) (zip-put c.args.name.now (tree c.args.value) place names (map tree values) (sym found))
