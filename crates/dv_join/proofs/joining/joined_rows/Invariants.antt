-- The copies that are left are those of the rows that are left. The joined rows so far, and those of the rows that are left, are
-- all joined rows.
use Rattle.std.proofs.Common.{◌≡◌, []}
use Rattle.std.specs.Prelude.{List}
use Rattle.dv_value.specs.Tree.{Field}
use Rattle.dv_change.specs.Changes.{Positioned}
use Rattle.dv_change.specs.Inner.Changes.{IsPositioned}
use Rattle.dv_join.specs.Inner.Copied.{DiffersByTarget, made_of}
use Rattle.dv_join.specs.Inner.Indexed.{IsJoinIndexOf}
use Rattle.dv_join.specs.Inner.Listed.{with_each_row}
use Rattle.dv_join.specs.Placed.{looked_up_at}
use Rattle.dv_join.specs.Inner.Turning.{has_foreign}
use Rattle.dv_join.proofs.joining.joined_rows.Given as goal

abbrev pub invariant-others : goal.invariant-others
invariant-others l = record {
  copies : (made : List Field → List Field) → l.copied ≡ made_of made l.fn.rows → l.copies ≡ made_of made l.pos-iterator;
  joined : (documents : Positioned) (made : List Field → List Field) → IsPositioned documents → IsJoinIndexOf (has_foreign l.lookup) documents l.foreign → DiffersByTarget l.lookup made → l.copied ≡ made_of made l.fn.rows → with_each_row l.joined (looked_up_at l.lookup l.pos-iterator documents) ≡ with_each_row [] (looked_up_at l.lookup l.fn.rows documents);
}
