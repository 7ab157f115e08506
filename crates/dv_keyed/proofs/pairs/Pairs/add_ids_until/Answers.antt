use Rattle.std.proofs.Common.{Bor, ◌∙◌, ◌||◌, ◌&&◌, ap, filter, map, sym}
use Rattle.std.specs.Ordering.{is_lt}
use Rattle.std.proofs.lemmas.List.Folds.{list_any-append}
use Rattle.std.proofs.lemmas.Result.{on_ok_weaker}
use Rattle.std.proofs.Math.Bool.{or-false}
use Rattle.dv_order.specs.Key.{KeyTree, key_order}
use Rattle.dv_keyed.specs.Inner.Keys.{has_key}
use Rattle.dv_keyed.specs.Inner.Pairs.{has_pair}
use Rattle.dv_keyed.specs.Inner.Ids.{has_in}
use Rattle.dv_keyed.proofs.Entries.{pair-found}
use Rattle.dv_keyed.proofs.Few.{front-has}
use Rattle.dv_keyed.proofs.pairs.Pairs.add_ids_until.Goals as goal

pub returns-in-Some : goal.returns-in-Some
returns-in-Some c = on_ok_weaker c.add_until.result (λ known i.
    let before = map (λ (k : Bor KeyTree). k.now) c.args.ids.now.items in
    let until = c.args.until.now in
    ap (has_key i) known
    ∙ list_any-append _ before (filter (λ l. is_lt (key_order l until)) c.in-Some.found.now)
    ∙ ap (λ b. has_key i before || b) (front-has until i c.in-Some.found.now)
    ∙ ap (λ b. has_key i before || (b && is_lt (key_order i until))) (sym (ap (has_pair c.args.key.now i) (sym c.self.view_is) ∙ pair-found c.args.key.now i c.self.inside.entries.entries c.self.invariant ∙ ap (has_in i) (sym c.in-Some.ensures.value)))) c.add_until.ensures

pub returns-in-None : goal.returns-in-None
returns-in-None c = λ i.
    let was = has_key i (map (λ (k : Bor KeyTree). k.now) c.args.ids.now.items) in
    let before = is_lt (key_order i c.args.until.now) in
    sym (or-false was)
    ∙ ap (λ b. was || (b && before)) (sym (ap (has_pair c.args.key.now i) (sym c.self.view_is) ∙ pair-found c.args.key.now i c.self.inside.entries.entries c.self.invariant ∙ ap (has_in i) (sym c.in-None.ensures.value)))
