-- Rows joined with the documents of an index, whatever documents are in it.
use Rattle.std.specs.Prelude.{◌≡◌, Option}
use Rattle.std.specs.BTreeSet.{BTreeSet, contains}
use Rattle.dv_order.specs.Key.{KeyTree, key_order}
use Rattle.dv_gather.specs.declared.lookup.Lookup.{Lookup}
use Rattle.dv_gather.specs.Lookups.{joined_documents, set_field}
use Rattle.dv_change.specs.Changes.{Positioned, forget}
use Rattle.dv_change.specs.Inner.Changes.{IsPositioned, alone}
use Rattle.dv_change.specs.Inner.Ordered.{put}
use Rattle.dv_change.specs.Positions.{PosTree}
use Rattle.dv_join.specs.declared.index.RowsByKey.{RowsByKey}
use Rattle.dv_join.specs.Inner.Copied.{DiffersByTarget, Row, made_of}
use Rattle.dv_join.specs.Inner.Indexed.{IsJoinIndexOf}
use Rattle.dv_join.specs.Inner.Turning.{AreLocalKeys, has_foreign, has_local}
use Rattle.dv_join.specs.Placed.{looked_up_at}

-- a copy of a row, with the documents that the row is joined with
abbrev pub copy_joined : Lookup → Positioned → Row → Row → Row
copy_joined l documents row copied = set_field l.target (joined_documents l (forget documents) row) copied

module _ (l : Lookup) (foreign : RowsByKey) where
  -- these are the joined rows, if the copied rows differ from the rows only by the target
  abbrev pub AreJoined : Positioned → Positioned → Positioned → Type 0
  AreJoined rows copied joined = (documents : Positioned) (made : Row → Row) → IsPositioned documents → IsJoinIndexOf (has_foreign l) documents foreign → IsPositioned rows → DiffersByTarget l made → copied ≡ made_of made rows → joined ≡ looked_up_at l rows documents

  -- these are joined rows with one more
  abbrev pub AddsJoined : PosTree → Row → Row → Positioned → Positioned → Type 0
  AddsJoined pos row copied joined more = (documents : Positioned) → IsPositioned documents → IsJoinIndexOf (has_foreign l) documents foreign → more ≡ put pos (copy_joined l documents row copied) joined

  -- this is the copied row with what a row that is looked up by these keys is joined with
  abbrev pub IsCopyJoined : BTreeSet KeyTree → Row → Row → Type 0
  IsCopyJoined keys copied joined = (documents : Positioned) (row : Row) → IsPositioned documents → IsJoinIndexOf (has_foreign l) documents foreign → ((k : KeyTree) → contains key_order keys k ≡ has_local l k row) → joined ≡ copy_joined l documents row copied

  -- this is the joined row at a position, if there is a row; it is looked up by these keys
  abbrev pub IsJoinedAlone : PosTree → Option Row → BTreeSet KeyTree → Positioned → Type 0
  IsJoinedAlone pos row keys joined = (documents : Positioned) → IsPositioned documents → IsJoinIndexOf (has_foreign l) documents foreign → AreLocalKeys l row keys → joined ≡ looked_up_at l (alone pos row) documents
