use Rattle.std.proofs.Common.{◌≡◌, ◌∙◌, add-one, arith, ap}
use Rattle.std.proofs.lemmas.Grind.{common_steps}
use Rattle.std.proofs.lemmas.List.{with_items_is}
use Rattle.dv_gather.proofs.Bounded.{none-more, row-added}
use Rattle.dv_gather.proofs.group_state.add_each.Goals as goal
use Rattle.dv_gather.proofs.group_state.add_each.Goals.{in-Some+in_ok-add_at, in_default}

pub fields-preserved : goal.fields-preserved
fields-preserved c = record {
  states = grind (arith, common_steps, c.fields.invariant.states);
  within = λ count h. elim c.match-branch-2.branch [
    | in-Some+in_ok-add_at w ↦
        let new = w.add_at.new.states in
        let here : c.match-branch-2.states.items ≡ new = ap (λ v. v.items) w.states-is ∙ with_items_is c.fields.states new (w.add_at.auto.states ∙ w.deref_mut.ensures.len) in
        rw (add-one, here) (w.in_ok-add_at.ensures.within count (rw w.deref_mut.ensures.value (c.fields.invariant.within count h)))
    | in_default w ↦ rw (add-one, w.states-is) (none-more c.fields.place count _ (c.fields.invariant.within count h))
  ];
}

pub returns-clause-within : goal.returns-clause-within
returns-clause-within c = λ count h. row-added c.fields.place count _ (c.fields.invariant.within count h)
