-- Each change takes the operator one change further.
use Rattle.std.proofs.Common.{rules, ◌≡◌, ◌∙◌, ◌++◌, ◌+◌, ◌∷◌, [], List, length, ap, refl, subst, sym}
use Rattle.std.specs.Vec.Iter.{into_iter_items}
use Rattle.dv_change.specs.declared.taking.Taken.{Taken}
use Rattle.dv_change.specs.Changes.{Positioned, with_change}
use Rattle.dv_change.specs.Difference.{diff}
use Rattle.dv_change.specs.Inner.Fed.{IsUnderway}
use Rattle.dv_change.specs.Inner.Told.{told_along}
use Rattle.dv_change.specs.Raised.{raised}
use Rattle.dv_change.proofs.Underway.{TakesOne, nothing-left, underway-end, underway-first, underway-next}
use Rattle.dv_change.proofs.operators.take_each.Goals as goal

pub changes-init : goal.changes-init
changes-init g c =
    let operator = g.O.Operator in
    record {
      sound = c.requires;
      makes = refl;
      underway = λ others left changes held exact are.
          let items : into_iter_items c.into_iter-taken-iterator.result ≡ c.args.all.items = search rules in
          underway-first (operator.makes c.args.operator.now others) (operator.holds c.args.operator.now others) left changes c.args.out.now.items c.args.out.now.items c.args.ticks.now c.args.ticks.now (into_iter_items c.into_iter-taken-iterator.result) held exact (items ∙ are) refl refl;
    }

pub changes-preserved : goal.changes-preserved
changes-preserved g c =
    let operator = g.O.Operator in
    let now = c.in_ok-take.ensures in
    let was = c.changes.invariant in
    record {
      sound = now.sound;
      makes = now.makes ∙ was.makes;
      underway = λ others left changes held exact are.
          let m = operator.makes c.args.operator.now others in
          let keeps = g.met.O.Operator.ordered c.args.operator.now others in
          let in_order = λ (rows : Positioned) (h : operator.holds c.changes.operator others rows). (g.met.O.Operator.positioned c.changes.operator others rows h).0 in
          let law : TakesOne m keeps (operator.holds c.changes.operator others) (operator.holds c.take.new.self others) in_order c.in-Some.taken c.changes.out.items c.take.new.out.items c.changes.ticks c.take.new.ticks =
          λ rows change h one exact. (
            now.holds others rows change h (record { there = tt; told = one; exact = exact }),
            now.out others rows change h (record { there = tt; told = one; exact = exact }) ∙ ap (λ k. c.changes.out.items ++ told_along (k others rows) (diff (k others rows) (k others (with_change rows change)))) was.makes,
            now.ticks others rows change h (record { there = tt; told = one; exact = exact }) ∙ ap (λ k. raised c.changes.ticks (1 + length (diff (k others rows) (k others (with_change rows change))))) was.makes,
          ) in
          let rest : into_iter_items c.changes.taken-iterator ≡ c.in-Some.taken ∷ into_iter_items c.next.new.self = search rules in
          underway-next m keeps (operator.holds c.changes.operator others) (operator.holds c.take.new.self others) in_order c.in-Some.taken (into_iter_items c.next.new.self) left changes c.args.out.now.items c.changes.out.items c.take.new.out.items c.args.ticks.now c.changes.ticks c.take.new.ticks law
          (subst (λ (items : List Taken). IsUnderway m (operator.holds c.changes.operator others) items left changes c.args.out.now.items c.changes.out.items c.args.ticks.now c.changes.ticks) rest (was.underway others left changes held exact are));
    }

pub returns-clause-fed : goal.returns-clause-fed
returns-clause-fed g c = λ others left changes held exact are.
    let operator = g.O.Operator in
    let m = operator.makes c.args.operator.now others in
    let none : into_iter_items c.changes.taken-iterator ≡ [] = nothing-left (into_iter_items c.changes.taken-iterator) (sym c.changes.taken-iterator.rest.ok.0 ∙ c.in-None.ensures.steps.0) in
    underway-end m (operator.holds c.changes.operator others) left changes c.args.out.now.items c.changes.out.items c.args.ticks.now c.changes.ticks
    (subst (λ (items : List Taken). IsUnderway m (operator.holds c.changes.operator others) items left changes c.args.out.now.items c.changes.out.items c.args.ticks.now c.changes.ticks) none (c.changes.invariant.underway others left changes held exact are))
