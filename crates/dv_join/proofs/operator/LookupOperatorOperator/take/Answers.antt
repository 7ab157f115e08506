-- It returns the changes of its two sides.
use Rattle.std.proofs.Common.{◌≡◌, ◌+◌, ◌++◌, ◌∙◌, List, ap, sym, length, subst}
use Rattle.dv_change.specs.declared.input.Input.{Input}
use Rattle.dv_change.specs.Changes.{Positioned, with_change}
use Rattle.dv_change.specs.Difference.{diff}
use Rattle.dv_change.specs.Inputs.{HasInput, left_after, others_after}
use Rattle.dv_change.specs.Raised.{raised}
use Rattle.dv_change.specs.Work.{owed_by}
use Rattle.dv_change.specs.Inner.Answered.{ok-one}
use Rattle.dv_join.specs.Placed.{looked_up_at}
use Rattle.dv_join.specs.Turning.{first_input}
use Rattle.dv_join.specs.Inner.Turning.{HoldsJoin}
use Rattle.dv_join.proofs.Owed.{only-one}
use Rattle.dv_join.proofs.Told.{left-counted, left-held, left-out, makes-by}
use Rattle.dv_change.specs.Inner.Told.{input_rows, told_along, with_old}
use Rattle.dv_change.specs.Inner.ToldLaws.{length-told}
use Rattle.dv_join.proofs.operator.LookupOperatorOperator.take.Goals as goal

pub returns-in-Left-clause-makes : goal.returns-in-Left-clause-makes
returns-in-Left-clause-makes c = ok-one c.hand_over.result c.hand_over.ensures.out (λ out. ap makes-by c.in_ok-new-in-Left.ensures.lookup)

pub returns-clause-makes : goal.returns-clause-makes
returns-clause-makes c = ok-one c.hand_over-in-Named.result c.hand_over-in-Named.ensures.out (λ out. ap makes-by c.in_ok-old-in-Named.ensures.lookup)

pub returns-in-Left-clause-holds : goal.returns-in-Left-clause-holds
returns-in-Left-clause-holds c = ok-one c.hand_over.result c.hand_over.ensures.out (λ out others left change held comes.
    left-held c.args.self.now c.args.input c.args.taken c.in-Left.is others left change held comes c.in_ok-keys-in-Left.keys c.take_left.new.self c.in_ok-new-in-Left.ensures.holds c.in_ok-keys-in-Left.ensures)

pub returns-in-Left-clause-out : goal.returns-in-Left-clause-out
returns-in-Left-clause-out c = ok-one c.hand_over.result c.hand_over.ensures.out (λ out others left change held comes.
    out ∙ ap (λ ts. c.args.out.now.items ++ ts) (
    left-out c.args.self.now c.args.input c.args.taken c.in-Left.is others left change held comes c.in_ok-old-in-Left.old c.in_ok-new-in-Left.new c.in_ok-new-in-Left.ensures.told (c.in_ok-old-in-Left.ensures (first_input others) held.foreign held.foreign_by c.in_ok-keys-in-Left.ensures)))

pub returns-in-Left-clause-ticks : goal.returns-in-Left-clause-ticks
returns-in-Left-clause-ticks c = ok-one c.hand_over.result c.hand_over.ensures.ticks (λ ticks others left change held comes.
    ticks ∙ ap (λ n. raised c.args.ticks.now (1 + n)) (
    left-counted c.args.self.now c.args.input c.args.taken c.in-Left.is others left change held comes c.in_ok-old-in-Left.old c.in_ok-new-in-Left.new c.in_ok-new-in-Left.ensures.told (c.in_ok-old-in-Left.ensures (first_input others) held.foreign held.foreign_by c.in_ok-keys-in-Left.ensures)))

pub returns-clause-holds : goal.returns-clause-holds
returns-clause-holds c =
    let is = c.in-Named.is in
    let side = c.in_ok-old-in-Named.ensures in
    ok-one c.hand_over-in-Named.result c.hand_over-in-Named.ensures.out (λ out others left change held comes.
    let one = only-one change left c.in-Named.field-0 others (subst (λ (i : Input). HasInput i others) is comes.there) held.one in
    let told : c.args.taken ≡ with_old (first_input others) change = comes.told ∙ ap (λ i. with_old (input_rows i others left) change) is ∙ ap (λ rows. with_old rows change) one.1 in
    subst (λ (i : Input). HoldsJoin c.take_foreign.new.self (others_after i change others) (left_after i change left)) (sym is) (subst (λ (all : List Positioned). HoldsJoin c.take_foreign.new.self all left) (sym one.0) (side.holds others left change held comes.exact told)))

pub returns-clause-out : goal.returns-clause-out
returns-clause-out c =
    let l = c.args.self.now.lookup in
    let is = c.in-Named.is in
    let side = c.in_ok-old-in-Named.ensures in
    ok-one c.hand_over-in-Named.result c.hand_over-in-Named.ensures.out (λ out others left change held comes.
    let one = only-one change left c.in-Named.field-0 others (subst (λ (i : Input). HasInput i others) is comes.there) held.one in
    let told : c.args.taken ≡ with_old (first_input others) change = comes.told ∙ ap (λ i. with_old (input_rows i others left) change) is ∙ ap (λ rows. with_old rows change) one.1 in
    let owed = ap (λ i. owed_by i change (makes-by l) others left) is ∙ ap (λ all. diff (looked_up_at l left (first_input others)) (looked_up_at l left (first_input all))) one.0 in
    out ∙ ap (λ ts. c.args.out.now.items ++ ts) (side.told others left change held comes.exact told ∙ sym (ap (told_along (looked_up_at l left (first_input others))) owed)))

pub returns-clause-ticks : goal.returns-clause-ticks
returns-clause-ticks c =
    let l = c.args.self.now.lookup in
    let is = c.in-Named.is in
    let side = c.in_ok-old-in-Named.ensures in
    ok-one c.hand_over-in-Named.result c.hand_over-in-Named.ensures.ticks (λ ticks others left change held comes.
    let one = only-one change left c.in-Named.field-0 others (subst (λ (i : Input). HasInput i others) is comes.there) held.one in
    let told : c.args.taken ≡ with_old (first_input others) change = comes.told ∙ ap (λ i. with_old (input_rows i others left) change) is ∙ ap (λ rows. with_old rows change) one.1 in
    let owed = ap (λ i. owed_by i change (makes-by l) others left) is ∙ ap (λ all. diff (looked_up_at l left (first_input others)) (looked_up_at l left (first_input all))) one.0 in
    ticks ∙ ap (λ n. raised c.args.ticks.now (1 + n)) (
    ap length (side.told others left change held comes.exact told)
    ∙ length-told (looked_up_at l left (first_input others)) (diff (looked_up_at l left (first_input others)) (looked_up_at l left (with_change (first_input others) change)))
    ∙ sym (ap length owed)))
