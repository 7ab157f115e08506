use Rattle.std.proofs.Common.{◌≡◌, ◌⊎◌, inl, inr, length}
use Rattle.dv_update.proofs.SameLeft.{begins-ended}
use Rattle.dv_update.proofs.order.is_beginning.Goals as goal

pub returns : goal.returns
returns c =
    let over : (length c.components.x-iterator.a.rest.now ≡ 0) ⊎ (length c.components.x-iterator.b.rest.now ≡ 0) =
    elim c.in-None.ensures.steps [ inl w ↦ inl w.1.0 | inr w ↦ inr w.1.0 ] in
    begins-ended c.components.invariant.2 over
