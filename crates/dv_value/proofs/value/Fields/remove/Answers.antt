use Rattle.std.proofs.Common.{◌≡◌, Some, sym, map, length, take, arith}
use Rattle.std.specs.Prelude.{remove}
use Rattle.std.specs.List.{zip}
use Rattle.std.proofs.lemmas.List.{length-map}
use Rattle.std.proofs.lemmas.Grind.{common_steps}
use Rattle.dv_value.specs.Names.{place_under}
use Rattle.dv_value.specs.View.{tree}
use Rattle.dv_value.proofs.Named.{value_nowhere}
use Rattle.dv_value.proofs.Changed.{place_has_value, value_found, without-nowhere, zip-without, map-remove}
use Rattle.dv_value.proofs.value.Fields.remove.Goals as goal

pub returns-in_default-clause-before : goal.returns-in_default-clause-before
returns-in_default-clause-before c = sym (value_nowhere c.args.name.now c.args.self.now (sym c.in_default.ensures.place))

pub returns-in_default-clause-ok : goal.returns-in_default-clause-ok
returns-in_default-clause-ok c = sym (without-nowhere c.args.name.now c.args.self.now (sym c.in_default.ensures.place))

pub front_without-requires-clause-there : goal.front_without-requires-clause-there
front_without-requires-clause-there c =
    let names = c.self.inside.names.value in
    let values = c.self.inside.values in
    let found : Some c.in-Some.place ≡ place_under c.args.name.now (zip names (map tree values.items)) = rw c.self.view_is c.in-Some.ensures.place in
    omega (arith, place_has_value c.args.name.now names values.items c.in-Some.place found, values.ok.0, c.len.ensures)

pub remove-requires : goal.remove-requires
remove-requires c =
    let names = c.self.inside.names.value in
    let values = c.self.inside.values in
    let found : Some c.in-Some.place ≡ place_under c.args.name.now (zip names (map tree values.items)) = rw c.self.view_is c.in-Some.ensures.place in
    omega (arith, place_has_value c.args.name.now names values.items c.in-Some.place found, values.ok.0)

pub returns-clause-before : goal.returns-clause-before
returns-clause-before c =
    let names = c.self.inside.names.value in
    let values = c.self.inside.values.items in
    let found : Some c.in-Some.place ≡ place_under c.args.name.now (zip names (map tree values)) = rw c.self.view_is c.in-Some.ensures.place in
    rw (← c.self.view_is) (value_found c.args.name.now names values c.in-Some.place found c.remove.result c.remove.ensures.value)

pub returns-clause-ok : goal.returns-clause-ok
returns-clause-ok c =
    let names = c.self.inside.names.value in
    let values = c.self.inside.values.items in
    let place = c.in-Some.place in
    let found : Some place ≡ place_under c.args.name.now (zip names (map tree values)) = rw c.self.view_is c.in-Some.ensures.place in
    let count : c.len.result ≡ length (map tree values) = omega (arith, c.len.ensures, c.self.inside.values.ok.0, length-map values tree) in
    let copied : c.in_ok-self-inside.field-0.value ≡ remove (take c.len.result names) place = grind (arith, common_steps) in
    rw (← c.self.view_is, copied, count, c.remove.ensures.items, map-remove values place) (zip-without c.args.name.now place names (map tree values) (sym found))
