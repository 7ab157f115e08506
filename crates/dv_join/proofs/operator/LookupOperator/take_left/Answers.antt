-- The changes are those of the joined row for the changed row alone.
use Rattle.std.proofs.Common.{◌≡◌, ◌∙◌, sym}
use Rattle.dv_change.specs.Inner.Changes.{alone}
use Rattle.dv_change.specs.Inner.DiffLaws.{positioned-changed}
use Rattle.dv_join.specs.Placed.{looked_up_at}
use Rattle.dv_join.specs.Turning.{first_input}
use Rattle.dv_join.specs.Inner.Turning.{has_local}
use Rattle.dv_join.proofs.Indexes.{index-changed}
use Rattle.dv_join.proofs.Owed.{left-told}
use Rattle.dv_change.specs.Inner.Told.{diff_told}
use Rattle.dv_join.proofs.operator.LookupOperator.take_left.Goals as goal

pub returns-clause-holds : goal.returns-clause-holds
returns-clause-holds c = λ others left change held exact told own.
    let self = c.args.self.now in
    record {
      left = positioned-changed left change held.left exact;
      foreign = held.foreign;
      left_by = index-changed (has_local self.lookup) left change self.left_by c.exchange.new.self _ _ _ _ _
          held.left exact (λ i. (told i).pos) (λ i. (told i).old) (λ i. (told i).new) own c.in_ok-new_keys.ensures c.in_ok-exchange.ensures held.left_by;
      foreign_by = held.foreign_by;
      one = held.one;
    }

pub returns-clause-told : goal.returns-clause-told
returns-clause-told c = λ before others left change held exact told made.
    let l = c.args.self.now.lookup in
    let foreign = first_input others in
    let old : before ≡ _ = made ∙ (λ i. looked_up_at l (alone (told i).pos (told i).old) foreign) in
    let after : c.in_ok-after.after ≡ _ = c.in_ok-after.ensures foreign held.foreign held.foreign_by c.in_ok-new_keys.ensures ∙ (λ i. looked_up_at l (alone (told i).pos (told i).new) foreign) in
    (λ i. diff_told (old i) (after i)) ∙ sym (left-told l left foreign change held.left exact)
