-- A change is taken in, with the stored rows if there are any.
use Rattle.std.proofs.Common.{Option, ap, subst}
use Rattle.std.specs.Option.{option_map}
use Rattle.dv_change.specs.Changes.{Positioned}
use Rattle.dv_change.specs.Inner.Answered.{ok-all}
use Rattle.dv_change.specs.Inner.Fed.{AreKept}
use Rattle.dv_change.proofs.Underway.{fed-only}
use Rattle.dv_change.proofs.operators.take_last.Goals as goal

pub returns-in-Some-clause-fed : goal.returns-in-Some-clause-fed
returns-in-Some-clause-fed g c =
    let operator = g.O.Operator in
    let taken = c.take_beside.ensures in
    ok-all c.take_beside.result taken.holds taken.out taken.ticks (λ holds out ticks others left changes held exact are kept.
    let is = subst (λ (rows : Option Positioned). AreKept rows (operator.makes c.args.operator.now others left)) (ap (option_map (λ rows. rows.now.entries)) c.in-Some.is) kept in
    fed-only (operator.makes c.args.operator.now others) (operator.holds c.take_beside.new.self others) c.args.taken left c.args.out.now.items c.take_beside.new.out.items c.args.ticks.now c.take_beside.new.ticks
    (λ change one exactly. (
      holds others left change held (record { there = tt; told = one; exact = exactly }),
      out others left change held (record { there = tt; told = one; exact = exactly }) is,
      ticks others left change held (record { there = tt; told = one; exact = exactly }) is,
    )) changes are exact)

pub returns-in-None-clause-fed : goal.returns-in-None-clause-fed
returns-in-None-clause-fed g c =
    let operator = g.O.Operator in
    let taken = c.take.ensures in
    ok-all c.take.result taken.holds taken.out taken.ticks (λ holds out ticks others left changes held exact are kept.
    fed-only (operator.makes c.args.operator.now others) (operator.holds c.take.new.self others) c.args.taken left c.args.out.now.items c.take.new.out.items c.args.ticks.now c.take.new.ticks
    (λ change one exactly. (
      holds others left change held (record { there = tt; told = one; exact = exactly }),
      out others left change held (record { there = tt; told = one; exact = exactly }),
      ticks others left change held (record { there = tt; told = one; exact = exactly }),
    )) changes are exact)
