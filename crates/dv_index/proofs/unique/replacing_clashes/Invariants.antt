use Rattle.std.proofs.Common.{◌≡◌, drop, map}
use Rattle.dv_index.specs.Inner.Change.{UniqueAreIndexesOf}
use Rattle.dv_keyed.specs.Inner.Index.{form_of}
use Rattle.dv_index.specs.Inner.View.{afters}
use Rattle.dv_index.specs.Unique as defined
use Rattle.dv_index.proofs.unique.replacing_clashes.Given as goal

-- one clashes in one of the indexes that are left exactly if one does in any
abbrev pub invariant-indexes : goal.invariant-indexes
invariant-indexes l = record {
  whole : defined.replacing_clashes (map form_of (drop l.index-index l.indexes)) (afters l.each) l.documents ≡ defined.replacing_clashes (map form_of l.indexes) (afters l.each) l.documents;
  indexed : UniqueAreIndexesOf (drop l.index-index l.indexes) l.documents;
}
