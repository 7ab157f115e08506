use Rattle.std.proofs.Common.{◌≡◌, Some, None, refl, sym, map, arith}
use Rattle.std.specs.List.{zip}
use Rattle.std.proofs.lemmas.Result.{on_ok_weaker, on_err_weaker}
use Rattle.dv_value.specs.Names.{place_under, value_under}
use Rattle.dv_value.specs.View.{tree}
use Rattle.dv_value.proofs.Named.{value_nowhere}
use Rattle.dv_value.proofs.Changed.{place_has_value}
use Rattle.dv_value.proofs.Pushed.{zip-pushed, zip-unpushed}
use Rattle.dv_value.proofs.value.Fields.push_element.Goals as goal

pub index_mut-requires : goal.index_mut-requires
index_mut-requires c =
    let names = c.self.inside.names.value in
    let values = c.self.inside.values in
    let found : Some c.in-Some.place ≡ place_under c.args.name.now (zip names (map tree values.items)) = rw c.self.view_is c.in-Some.ensures.place in
    omega (arith, place_has_value c.args.name.now names values.items c.in-Some.place found, values.ok.0)

pub returns-in-Some-clause-ok : goal.returns-in-Some-clause-ok
returns-in-Some-clause-ok c =
    let names = c.self.inside.names.value in
    let values = c.self.inside.values.items in
    let found : Some c.in-Some.place ≡ place_under c.args.name.now (zip names (map tree values)) = rw c.self.view_is c.in-Some.ensures.place in
    let pushed = zip-pushed c.args.name.now names values c.in-Some.place found c.index_mut.result.now c.push_element.new.self c.index_mut.ensures.value (tree c.args.value) in
    rw (← c.self.view_is) (on_ok_weaker c.push_element.result pushed c.push_element.ensures.ok)

pub returns-in-Some-clause-err : goal.returns-in-Some-clause-err
returns-in-Some-clause-err c =
    let names = c.self.inside.names.value in
    let values = c.self.inside.values.items in
    let found : Some c.in-Some.place ≡ place_under c.args.name.now (zip names (map tree values)) = rw c.self.view_is c.in-Some.ensures.place in
    let unpushed = zip-unpushed c.args.name.now names values c.in-Some.place found c.index_mut.result.now c.push_element.new.self c.index_mut.ensures.value in
    rw (← c.self.view_is) (on_err_weaker c.push_element.result unpushed c.push_element.ensures.err)

pub returns-in-None-clause-ok : goal.returns-in-None-clause-ok
returns-in-None-clause-ok c =
    let none : value_under c.args.name.now c.args.self.now ≡ None = value_nowhere c.args.name.now c.args.self.now (sym c.in-None.ensures.place) in
    rw none refl
