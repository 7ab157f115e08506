-- Each change takes them one row further.
use Rattle.std.proofs.Common.{rules, ◌≡◌, ◌∙◌, ◌∷◌, [], List, subst, sym}
use Rattle.std.specs.Vec.Iter.{into_iter_items}
use Rattle.dv_change.specs.declared.taking.Taken.{Taken}
use Rattle.dv_change.specs.Inner.Fed.{AreFilling}
use Rattle.dv_change.proofs.Filling.{filling-end, filling-first, filling-next}
use Rattle.dv_change.proofs.Underway.{nothing-left}
use Rattle.dv_change.proofs.operators.fill_each.Goals as goal

pub changes-init : goal.changes-init
changes-init g c =
    let o = g.O.Operator in
    let laws = g.met.O.Operator in
    record {
      sound = c.requires;
      filling = λ forms changes held exact are.
          let items : into_iter_items c.into_iter-taken-iterator.result ≡ c.args.all.items = search rules in
          filling-first o.makes o.holds laws.positioned laws.ordered forms changes laws.empty c.args.operators.now (into_iter_items c.into_iter-taken-iterator.result) c.new-made.result.items held exact (items ∙ are) c.new-made.ensures.items;
    }

pub changes-preserved : goal.changes-preserved
changes-preserved g c =
    let o = g.O.Operator in
    let laws = g.met.O.Operator in
    record {
      sound = c.in_ok-take_one.ensures.sound;
      filling = λ forms changes held exact are.
          let rest : into_iter_items c.changes.taken-iterator ≡ c.in-Some.taken ∷ into_iter_items c.next.new.self = search rules in
          filling-next o.makes o.holds laws.positioned laws.ordered forms changes c.changes.operators c.take_one.new.operators c.in-Some.taken (into_iter_items c.next.new.self) c.changes.made.items c.take_one.new.out.items c.changes.ticks c.take_one.new.ticks c.in_ok-take_one.ensures.passed
          (subst (λ (items : List Taken). AreFilling o.makes o.holds c.changes.operators forms items changes c.changes.made.items) rest (c.changes.invariant.filling forms changes held exact are));
    }

pub returns-clause-filled : goal.returns-clause-filled
returns-clause-filled g c = λ forms changes held exact are.
    let o = g.O.Operator in
    let laws = g.met.O.Operator in
    let none : into_iter_items c.changes.taken-iterator ≡ [] = nothing-left (into_iter_items c.changes.taken-iterator) (sym c.changes.taken-iterator.rest.ok.0 ∙ c.in-None.ensures.steps.0) in
    filling-end o.makes o.holds laws.positioned laws.ordered forms changes c.changes.operators c.changes.made.items
    (subst (λ (items : List Taken). AreFilling o.makes o.holds c.changes.operators forms items changes c.changes.made.items) none (c.changes.invariant.filling forms changes held exact are))
