-- Both trees have the same row at each position.
use Rattle.std.proofs.Common.{◌∙◌, refl}
use Rattle.std.proofs.lemmas.Map.Keys.{IsDistinct-from_sorted}
use Rattle.std.proofs.lemmas.Map.Made.{update_all_none}
use Rattle.std.specs.Cmp.{eq_by_cmp_equiv}
use Rattle.std.specs.Map.{keys_of}
use Rattle.std.specs.Ordering.{eq_by_cmp}
use Rattle.dv_change.specs.Positions.{pos_order}
use Rattle.dv_change.specs.Inner.PositionLaws.{pos_order_total}
use Rattle.dv_change.specs.Inner.RowLaws.{same_rows}
use Rattle.dv_change.proofs.packed.packed.Goals as goal

pub returns : goal.returns
returns c =
    let made = c.in_ok-packed.ensures in
    let rows = c.args.rows.entries in
    same_rows c.in_ok-packed.packed.entries rows (record { ascending = made.1; exact = c.law_exact_rows.ensures }) c.requires
    (λ q exact. made.0 q ∙ update_all_none (eq_by_cmp_equiv pos_order_total) (eq_by_cmp pos_order) (λ x y. refl) rows q (IsDistinct-from_sorted pos_order (keys_of rows) c.requires.ascending))
