-- For a change of its rows it returns the changes of the joined row for the changed row alone; the old joined row is kept.
use Rattle.std.proofs.Common.{◌+◌, ◌++◌, ◌∙◌, ap}
use Rattle.dv_change.specs.Raised.{raised}
use Rattle.dv_change.specs.Inner.Answered.{ok-one}
use Rattle.dv_join.proofs.Told.{left-counted, left-held, left-kept, left-out, makes-by}
use Rattle.dv_join.proofs.operator.LookupOperatorOperator.take_beside.Goals as goal

pub returns-in_ok-new-in-Left-clause-makes : goal.returns-in_ok-new-in-Left-clause-makes
returns-in_ok-new-in-Left-clause-makes c = ok-one c.hand_over.result c.hand_over.ensures.out (λ out. ap makes-by c.in_ok-new-in-Left.ensures.lookup)

pub returns-in_ok-new-in-Left-clause-holds : goal.returns-in_ok-new-in-Left-clause-holds
returns-in_ok-new-in-Left-clause-holds c = ok-one c.hand_over.result c.hand_over.ensures.out (λ out others left change held comes.
    left-held c.args.self.now c.args.input c.args.taken c.in-Left.is others left change held comes c.in_ok-keys-in-Left.keys c.take_left.new.self c.in_ok-new-in-Left.ensures.holds c.in_ok-keys-in-Left.ensures)

pub returns-in_ok-new-in-Left-clause-out : goal.returns-in_ok-new-in-Left-clause-out
returns-in_ok-new-in-Left-clause-out c = ok-one c.hand_over.result c.hand_over.ensures.out (λ out others left change held comes is.
    let before = c.in_ok-old-in-Left.ensures ∙ left-kept c.args.self.now c.args.input c.args.taken c.in-Left.is others left change held comes c.args.made.now.entries is in
    out ∙ ap (λ ts. c.args.out.now.items ++ ts) (
    left-out c.args.self.now c.args.input c.args.taken c.in-Left.is others left change held comes c.in_ok-old-in-Left.old c.in_ok-new-in-Left.new c.in_ok-new-in-Left.ensures.told before))

pub returns-in_ok-new-in-Left-clause-ticks : goal.returns-in_ok-new-in-Left-clause-ticks
returns-in_ok-new-in-Left-clause-ticks c = ok-one c.hand_over.result c.hand_over.ensures.ticks (λ ticks others left change held comes is.
    let before = c.in_ok-old-in-Left.ensures ∙ left-kept c.args.self.now c.args.input c.args.taken c.in-Left.is others left change held comes c.args.made.now.entries is in
    ticks ∙ ap (λ n. raised c.args.ticks.now (1 + n)) (
    left-counted c.args.self.now c.args.input c.args.taken c.in-Left.is others left change held comes c.in_ok-old-in-Left.old c.in_ok-new-in-Left.new c.in_ok-new-in-Left.ensures.told before))
