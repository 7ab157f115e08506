use Rattle.std.proofs.Common.{◌≡◌, ◌++◌, false, map}
use Rattle.std.specs.List.{AllByRecursion}
use Rattle.std.specs.Vec.Iter.{into_iter_items}
use Rattle.dv_keyed.specs.Inner.Index.{form_of}
use Rattle.dv_index.specs.Inner.Search.{IsIndexOf}
use Rattle.dv_index.specs.Unique.{are_broken}
use Rattle.dv_keyed.specs.Inner.View.{form_of_new}
use Rattle.dv_index.proofs.making.indexes_over.Given as goal

-- the indexes so far, and those that are still wanted
abbrev pub invariant-wanted : goal.invariant-wanted
invariant-wanted l = record {
  forms : map form_of l.made.items ++ map form_of_new (into_iter_items l.index-iterator) ≡ map form_of_new l.fn.wanted.items;
  indexes : AllByRecursion (λ x. IsIndexOf x l.documents) l.made.items;
  sound : are_broken (map form_of l.made.items) l.documents ≡ false;
}
