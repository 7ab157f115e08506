-- The order if one part is borrowed alone.
use Rattle.std.specs.Prelude.{◌≡◌, [], ◌∷◌}
use Rattle.std.proofs.Common.{ap, sym, ◌∙◌}
use Rattle.std.specs.declared.cmp.Ordering.{Ordering}
use Rattle.std.specs.Ordering.{ordering_reverse}
use Rattle.dv_order.specs.declared.lent.LentKey.{LentKey}
use Rattle.dv_order.specs.Key.{key_order}
use Rattle.dv_order.specs.LentKeys.{lent_key}
use Rattle.dv_order.specs.Inner.TotalOrder.{then_Equal}
use Rattle.dv_change.specs.declared.position.Part.TheVariants.{Up}
use Rattle.dv_change.specs.declared.lent.Parts.{Parts}
use Rattle.dv_change.specs.declared.lent.Lent.{Lent}
use Rattle.dv_change.specs.declared.lent.Lent.TheVariants.{Alone, Together}
use Rattle.dv_change.specs.Inner.Lents.{lent_parts, parts_lent}
use Rattle.dv_change.specs.Positions.{pos_order}
use Rattle.dv_change.specs.Inner.PositionLaws.{pos_order_total}

pub alone_alone : (p q : Lent) (k l : LentKey) → p ≡ Alone k → q ≡ Alone l → key_order (lent_key k) (lent_key l) ≡ pos_order (lent_parts p) (lent_parts q)
alone_alone p q k l e f = rw (e, f) (sym (then_Equal (key_order (lent_key k) (lent_key l))))

pub alone_together : (p q : Lent) (k : LentKey) (ps : Parts) (r : Ordering) → p ≡ Alone k → q ≡ Together ps → r ≡ pos_order (parts_lent ps) (Up (lent_key k) ∷ []) → ordering_reverse r ≡ pos_order (lent_parts p) (lent_parts q)
alone_together p q k ps r e f h = rw (e, f) (ap ordering_reverse h ∙ sym (pos_order_total.antisymm (Up (lent_key k) ∷ []) (parts_lent ps)))
