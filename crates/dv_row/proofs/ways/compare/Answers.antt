use Rattle.std.proofs.Common.{◌≡◌, ◌∙◌, ◌⊎◌, inl, inr, length}
use Rattle.dv_row.proofs.Compared.{order-ended}
use Rattle.dv_row.proofs.ways.compare.Goals as goal

pub returns : goal.returns
returns c =
    let over : (length c.components.x-iterator.a.rest.now ≡ 0) ⊎ (length c.components.x-iterator.b.rest.now ≡ 0) =
    elim c.in-None.ensures.steps [ inl w ↦ inl w.1.0 | inr w ↦ inr w.1.0 ] in
    c.cmp.ensures ∙ order-ended c.components.invariant.2 over
