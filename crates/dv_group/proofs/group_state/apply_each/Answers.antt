-- Each turn of the loop changes the state of one field.
use Rattle.std.proofs.Common.{◌≡◌, ◌+◌, [], ◌∷◌, ◌∙◌, List, ap, drop, map, subst, sym}
use Rattle.std.proofs.lemmas.List.{with_items_is}
use Rattle.dv_gather.specs.Inner.GroupView.{accumulation}
use Rattle.dv_gather.specs.Grouping.{Accumulation}
use Rattle.dv_group.specs.Inner.SumBounds.{AreSummableIn, HaveRoom}
use Rattle.dv_group.specs.Inner.AccumulatorStates.{AccumulatorState, states_after_at, states_after_from}
use Rattle.dv_group.specs.Inner.StateView.{state_seen}
use Rattle.dv_group.proofs.Places.{place-left, room-first, step-after, step-summable, step-room, step-same}
use Rattle.dv_group.proofs.group_state.apply_each.Goals as goal

pub apply_at-requires : goal.apply_at-requires
apply_at-requires c =
    let a = accumulation c.index-fields-place.result in
    let first = map state_seen c.args.states.now.items in
    let so_far = map state_seen c.fields.states.items in
    let rest = map accumulation (drop (c.fields.place + 1) c.args.fields.now) in
    let left : map accumulation (drop c.fields.place c.args.fields.now) ≡ a ∷ rest = place-left accumulation c.args.fields.now c.fields.place c.index-fields-place.result c.fields-test.true c.index-fields-place.is in
    let room : HaveRoom c.args.change (a ∷ []) c.args.pos.now c.args.row.now (drop c.fields.place first) =
    room-first c.args.change a c.args.pos.now c.args.row.now rest (drop c.fields.place first) (subst (λ (fields : List Accumulation). HaveRoom c.args.change fields c.args.pos.now c.args.row.now (drop c.fields.place first)) left c.fields.invariant.room) in
    rw c.deref_mut.ensures.value (subst (λ (ts : List AccumulatorState). HaveRoom c.args.change (a ∷ []) c.args.pos.now c.args.row.now ts) (sym c.fields.invariant.same) room)

pub fields-preserved : goal.fields-preserved
fields-preserved c =
    let a = accumulation c.index-fields-place.result in
    let place = c.fields.place in
    let first = map state_seen c.args.states.now.items in
    let so_far = map state_seen c.fields.states.items in
    let all = states_after_from c.args.change c.args.pos.now c.args.row.now 0 (map accumulation c.args.fields.now) first in
    let rest = map accumulation (drop (place + 1) c.args.fields.now) in
    let left : map accumulation (drop place c.args.fields.now) ≡ a ∷ rest = place-left accumulation c.args.fields.now place c.index-fields-place.result c.fields-test.true c.index-fields-place.is in
    let new = c.apply_at.new.states in
    let here = with_items_is c.fields.states new (c.apply_at.auto.states ∙ c.deref_mut.ensures.len) in
    let followed : map state_seen new ≡ states_after_at c.args.change c.args.pos.now c.args.row.now place a so_far = c.in_ok-apply_at.ensures.states ∙ ap (λ ts. states_after_at c.args.change c.args.pos.now c.args.row.now place a (map state_seen ts)) c.deref_mut.ensures.value in
    let after = ap (map state_seen) here ∙ followed in
    let R = AreSummableIn first (map accumulation c.args.fields.now) c.args.row.now in
    let now = map state_seen (c.fields.states.items) in
    record {
      states = step-after c.args.change a c.args.pos.now c.args.row.now rest place first so_far _ all R c.fields.invariant.same after
          (subst (λ (fields : List Accumulation). states_after_from c.args.change c.args.pos.now c.args.row.now place fields so_far ≡ all) left c.fields.invariant.states);
      same = step-same c.args.change a c.args.pos.now c.args.row.now rest place first so_far _ all R c.fields.invariant.same after;
      room = step-room c.args.change a c.args.pos.now c.args.row.now rest place first so_far _ all R c.fields.invariant.same after
          (subst (λ (fields : List Accumulation). HaveRoom c.args.change fields c.args.pos.now c.args.row.now (drop place first)) left c.fields.invariant.room);
      summable = step-summable c.args.change a c.args.pos.now c.args.row.now rest place first so_far _ all R c.fields.invariant.same after
          (subst (λ (ts : List AccumulatorState). AreSummableIn ts (a ∷ []) c.args.row.now) (ap (λ ts. drop place (map state_seen ts)) c.deref_mut.ensures.value) c.in_ok-apply_at.ensures.summable)
          (subst (λ (fields : List Accumulation). AreSummableIn (drop place first) fields c.args.row.now → R) left c.fields.invariant.summable);
    }
