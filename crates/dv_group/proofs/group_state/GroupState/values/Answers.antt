use Rattle.std.proofs.Common.{◌≡◌, ◌∙◌, ◌++◌, ◌⊎◌, ap, append-nil, inl, inr, length, map, sym}
use Rattle.std.proofs.lemmas.List.{length-map}
use Rattle.dv_value.specs.View.{tree}
use Rattle.dv_gather.specs.Inner.GroupView.{accumulation}
use Rattle.dv_group.specs.Inner.StateView.{state_seen}
use Rattle.dv_group.proofs.Places.{values-ended}
use Rattle.dv_group.proofs.group_state.GroupState.values.Goals as goal

pub returns : goal.returns
returns c =
    let fields = map accumulation c.fields.field-iterator.a.rest.now in
    let states = map state_seen c.fields.field-iterator.b.rest.now in
    let values = map tree c.fields.values.items in
    let over : (length fields ≡ 0) ⊎ (length states ≡ 0) = elim c.in-None.ensures.steps [ inl w ↦ inl (length-map _ accumulation ∙ w.1.0) | inr w ↦ inr (length-map _ state_seen ∙ w.1.0) ] in
    sym (append-nil values) ∙ ap (λ more. values ++ more) (sym (values-ended fields states over)) ∙ c.fields.invariant.2
