-- The changes are those of the joined rows for the rows that have a key of the old document or of the new one.
use Rattle.std.proofs.Common.{◌≡◌, ◌∙◌, filter, refl, subst, sym}
use Rattle.std.specs.BTreeSet.{union}
use Rattle.dv_change.specs.Changes.{Positioned, at, forget, with_change}
use Rattle.dv_change.specs.Inner.Changes.{IsPositioned, position_changed, row_in}
use Rattle.dv_change.specs.Inner.DiffLaws.{positioned-changed, positioned-filter}
use Rattle.dv_gather.specs.Lookups.{joined_row}
use Rattle.dv_order.specs.Key.{key_order}
use Rattle.dv_join.specs.Inner.Indexed.{has_any}
use Rattle.dv_join.specs.Placed.{looked_up_at}
use Rattle.dv_join.specs.Turning.{first_input}
use Rattle.dv_join.specs.Inner.Turning.{has_foreign, has_local, if_any}
use Rattle.dv_join.proofs.Copied.{joined-differs, made-itself}
use Rattle.dv_join.proofs.Indexes.{index-changed}
use Rattle.dv_join.proofs.Owed.{foreign-told, touched-by}
use Rattle.dv_change.specs.Inner.Told.{diff_told}
use Rattle.dv_join.proofs.operator.LookupOperator.take_foreign.Goals as goal

pub returns-clause-holds : goal.returns-clause-holds
returns-clause-holds c = λ others left change held exact told.
    let self = c.args.self.now in
    record {
      left = held.left;
      foreign = positioned-changed (first_input others) change held.foreign exact;
      left_by = held.left_by;
      foreign_by = index-changed (has_foreign self.lookup) (first_input others) change self.foreign_by c.exchange.new.self _ _ _ _ _
          held.foreign exact (λ i. (told i).pos) (λ i. (told i).old) (λ i. (told i).new) c.in_ok-old_keys.ensures c.in_ok-new_keys.ensures c.in_ok-exchange.ensures held.foreign_by;
      one = refl;
    }

pub returns-clause-told : goal.returns-clause-told
returns-clause-told c = λ others rows change held exact told.
    let self = c.args.self.now in
    let l = self.lookup in
    let foreign = first_input others in
    let old_keys = c.in_ok-old_keys.old_keys in
    let new_keys = c.in_ok-new_keys.new_keys in
    let keys = union key_order old_keys new_keys in
    let test = has_any (has_local l) keys in
    let index = index-changed (has_foreign l) foreign change self.foreign_by c.exchange.new.self _ _ _ _ _
    held.foreign exact (λ i. (told i).pos) (λ i. (told i).old) (λ i. (told i).new) c.in_ok-old_keys.ensures c.in_ok-new_keys.ensures c.in_ok-exchange.ensures held.foreign_by in
    let touched : c.in_ok-touched.touched ≡ filter (λ e. test e.1) rows = c.in_ok-touched.ensures.rows (has_local l) rows held.left held.left_by in
    let touched-are : IsPositioned c.in_ok-touched.touched = subst (λ (es : Positioned). IsPositioned es) (sym touched) (positioned-filter (λ e. test e.1) rows held.left) in
    let before : c.in_ok-before.before ≡ looked_up_at l c.in_ok-touched.touched foreign = c.in_ok-before.ensures foreign (λ d. d) held.foreign held.foreign_by touched-are (λ v d. refl) (made-itself c.in_ok-touched.touched) in
    let after : c.in_ok-after.after ≡ looked_up_at l c.in_ok-touched.touched (with_change foreign change) = c.in_ok-after.ensures (with_change foreign change) (joined_row l (forget foreign)) (positioned-changed foreign change held.foreign exact) index touched-are (joined-differs l foreign) before in
    let own = touched-by l (at (position_changed change) foreign) (row_in change) keys old_keys.keys new_keys.keys c.in_ok-touched.ensures.union (λ k. c.in_ok-old_keys.ensures k ∙ (λ i. if_any (has_foreign l k) (told i).old)) (λ k. c.in_ok-new_keys.ensures k ∙ (λ i. if_any (has_foreign l k) (told i).new)) in
    (λ i. diff_told (before i) (after i))
    ∙ (λ i. diff_told (looked_up_at l (touched i) foreign) (looked_up_at l (touched i) (with_change foreign change)))
    ∙ sym (foreign-told l rows foreign change test held.left held.foreign exact own)
