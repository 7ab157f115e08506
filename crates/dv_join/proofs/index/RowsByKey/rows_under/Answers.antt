-- The rows under each key are those that have it.
use Rattle.std.proofs.Common.{rules, ◌≡◌, ◌∙◌, ◌∷◌, [], ap, false, sym}
use Rattle.std.specs.BTreeSet.{union}
use Rattle.std.specs.Option.{option_copied, unwrap_or}
use Rattle.dv_order.specs.Key.{KeyTree, key_order}
use Rattle.dv_join.specs.Inner.Indexed.{under}
use Rattle.dv_join.specs.Inner.Listed.{with_each_row}
use Rattle.dv_join.proofs.Indexes.{all_under, all_under-passing}
use Rattle.dv_join.proofs.Rows.{none-passing}
use Rattle.dv_join.proofs.index.RowsByKey.rows_under.Goals as goal

pub returns-clause-rows : goal.returns-clause-rows
returns-clause-rows c = λ has rows are is.
    let f = λ (k : KeyTree). under k c.args.self.now in
    let keys = union key_order c.args.keys.now c.args.others.now in
    let done : c.keys.found ≡ all_under f keys [] = search rules in
    done ∙ ap (all_under f keys) (none-passing rows) ∙ all_under-passing has rows f are is keys (λ d. false)

pub keys-preserved-in-Some-get : goal.keys-preserved-in-Some-get
keys-preserved-in-Some-get c =
    let f = λ (k : KeyTree). under k c.args.self.now in
    let key = c.in-Some.key.now in
    let step : c.keys.key-iterator ≡ key ∷ c.next.new.self = search rules in
    let there : c.in-Some-get.rows.now ≡ under key c.args.self.now = ap (λ o. unwrap_or o []) (sym (ap option_copied c.in-Some-get.is) ∙ c.get.ensures.value) in
    ap (all_under f c.next.new.self) (c.in_ok-found.ensures ∙ ap (with_each_row c.keys.found) there)
    ∙ ap (λ ks. all_under f ks c.keys.found) (sym step)
    ∙ c.keys.invariant

pub keys-preserved : goal.keys-preserved
keys-preserved c =
    let f = λ (k : KeyTree). under k c.args.self.now in
    let key = c.in-Some.key.now in
    let step : c.keys.key-iterator ≡ key ∷ c.next.new.self = search rules in
    let none : under key c.args.self.now ≡ [] = ap (λ o. unwrap_or o []) (sym c.get.ensures.value ∙ ap option_copied c.in_default.is) in
    ap (λ es. all_under f c.next.new.self (with_each_row c.keys.found es)) (sym none)
    ∙ ap (λ ks. all_under f ks c.keys.found) (sym step)
    ∙ c.keys.invariant
