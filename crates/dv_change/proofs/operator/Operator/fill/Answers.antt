-- Each change takes it one change further; the changes that it returns for all of them lead from no rows to its result.
use Rattle.std.proofs.Common.{rules, ◌≡◌, ◌∙◌, ◌++◌, ◌+◌, ◌∷◌, [], List, length, ap, refl, subst, sym}
use Rattle.std.specs.Vec.Iter.{into_iter_items}
use Rattle.dv_change.specs.declared.taking.Taken.{Taken}
use Rattle.dv_change.specs.Changes.{Positioned, with_change}
use Rattle.dv_change.specs.Difference.{diff}
use Rattle.dv_change.specs.Inner.Fed.{IsUnderway}
use Rattle.dv_change.specs.Raised.{raised}
use Rattle.dv_change.specs.Inner.Told.{told_along}
use Rattle.dv_change.proofs.Underway.{TakesOne, fed-filled, nothing-left, underway-end, underway-first, underway-next}
use Rattle.dv_change.proofs.operator.Operator.fill.Goals as goal

pub changes-init : goal.changes-init
changes-init g c =
    let operator = g.Self.Operator in
    record {
      sound = c.requires;
      makes = refl;
      underway = λ others changes held exact are.
          let items : into_iter_items c.into_iter-taken-iterator.result ≡ c.args.all.items = search rules in
          underway-first (operator.makes c.args.self.now others) (operator.holds c.args.self.now others) [] changes [] c.new-made.result.items 0 c.new-ticks.result (into_iter_items c.into_iter-taken-iterator.result) held exact (items ∙ are) c.new-made.ensures.items c.new-ticks.ensures;
    }

pub changes-preserved : goal.changes-preserved
changes-preserved g c =
    let operator = g.Self.Operator in
    let now = c.in_ok-take.ensures in
    let was = c.changes.invariant in
    record {
      sound = now.sound;
      makes = now.makes ∙ was.makes;
      underway = λ others changes held exact are.
          let m = operator.makes c.args.self.now others in
          let keeps = g.met.Self.Operator.ordered c.args.self.now others in
          let in_order = λ (rows : Positioned) (h : operator.holds c.changes.self others rows). (g.met.Self.Operator.positioned c.changes.self others rows h).0 in
          let law : TakesOne m keeps (operator.holds c.changes.self others) (operator.holds c.take.new.self others) in_order c.in-Some.taken c.changes.made.items c.take.new.out.items c.changes.ticks c.take.new.ticks =
          λ rows change h one exact. (
            now.holds others rows change h (record { there = tt; told = one; exact = exact }),
            now.out others rows change h (record { there = tt; told = one; exact = exact }) ∙ ap (λ k. c.changes.made.items ++ told_along (k others rows) (diff (k others rows) (k others (with_change rows change)))) was.makes,
            now.ticks others rows change h (record { there = tt; told = one; exact = exact }) ∙ ap (λ k. raised c.changes.ticks (1 + length (diff (k others rows) (k others (with_change rows change))))) was.makes,
          ) in
          let rest : into_iter_items c.changes.taken-iterator ≡ c.in-Some.taken ∷ into_iter_items c.next.new.self = search rules in
          underway-next m keeps (operator.holds c.changes.self others) (operator.holds c.take.new.self others) in_order c.in-Some.taken (into_iter_items c.next.new.self) [] changes [] c.changes.made.items c.take.new.out.items 0 c.changes.ticks c.take.new.ticks law
          (subst (λ (items : List Taken). IsUnderway m (operator.holds c.changes.self others) items [] changes [] c.changes.made.items 0 c.changes.ticks) rest (was.underway others changes held exact are));
    }

pub returns-clause-filled : goal.returns-clause-filled
returns-clause-filled g c = λ others changes held exact are.
    let operator = g.Self.Operator in
    let m = operator.makes c.args.self.now others in
    let none : into_iter_items c.changes.taken-iterator ≡ [] = nothing-left (into_iter_items c.changes.taken-iterator) (sym c.changes.taken-iterator.rest.ok.0 ∙ c.in-None.ensures.steps.0) in
    fed-filled m (operator.holds c.changes.self others) (g.met.Self.Operator.ordered c.args.self.now others) (g.met.Self.Operator.empty c.args.self.now others) changes [] c.changes.made.items 0 c.changes.ticks refl exact
    (underway-end m (operator.holds c.changes.self others) [] changes [] c.changes.made.items 0 c.changes.ticks
    (subst (λ (items : List Taken). IsUnderway m (operator.holds c.changes.self others) items [] changes [] c.changes.made.items 0 c.changes.ticks) none (c.changes.invariant.underway others changes held exact are)))
