use Rattle.std.proofs.Common.{◌≡◌, drop, map}
use Rattle.dv_index.specs.Inner.Change.{UniqueAreIndexesOf}
use Rattle.dv_keyed.specs.Inner.Index.{form_of}
use Rattle.dv_index.specs.Unique as defined
use Rattle.dv_index.proofs.unique.clashes.Given as goal

-- it clashes in one of the indexes that are left exactly if it does in any
abbrev pub invariant-indexes : goal.invariant-indexes
invariant-indexes l = record {
  whole : defined.clashes (map form_of (drop l.index-index l.indexes)) l.document l.documents ≡ defined.clashes (map form_of l.indexes) l.document l.documents;
  indexed : UniqueAreIndexesOf (drop l.index-index l.indexes) l.documents;
}
