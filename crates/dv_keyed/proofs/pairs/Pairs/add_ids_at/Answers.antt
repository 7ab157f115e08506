use Rattle.std.proofs.Common.{Bor, ◌∙◌, ◌||◌, ap, sym, map}
use Rattle.std.proofs.lemmas.List.Folds.{list_any-append}
use Rattle.std.proofs.lemmas.Result.{on_ok_weaker}
use Rattle.std.proofs.Math.Bool.{or-false}
use Rattle.dv_order.specs.Key.{KeyTree}
use Rattle.dv_keyed.specs.Inner.Keys.{has_key}
use Rattle.dv_keyed.specs.Inner.Pairs.{has_pair}
use Rattle.dv_keyed.specs.Inner.Ids.{has_in}
use Rattle.dv_keyed.proofs.Entries.{pair-found}
use Rattle.dv_keyed.proofs.pairs.Pairs.add_ids_at.Goals as goal

pub returns-in-Some : goal.returns-in-Some
returns-in-Some c = on_ok_weaker c.add_to.result (λ known i.
    let before = map (λ (k : Bor KeyTree). k.now) c.args.ids.now.items in
    ap (has_key i) known
    ∙ list_any-append _ before c.in-Some.found.now
    ∙ ap (λ b. has_key i before || b) (sym (ap (has_pair c.args.key.now i) (sym c.self.view_is) ∙ pair-found c.args.key.now i c.self.inside.entries.entries c.self.invariant ∙ ap (has_in i) (sym c.in-Some.ensures.value)))) c.add_to.ensures

pub returns-in-None : goal.returns-in-None
returns-in-None c = λ i.
    let was = has_key i (map (λ (k : Bor KeyTree). k.now) c.args.ids.now.items) in
    sym (or-false was) ∙ ap (λ b. was || b) (sym (ap (has_pair c.args.key.now i) (sym c.self.view_is) ∙ pair-found c.args.key.now i c.self.inside.entries.entries c.self.invariant ∙ ap (has_in i) (sym c.in-None.ensures.value)))
