use Rattle.std.proofs.Common.{◌+◌, ◌*◌}
use Rattle.dv_value.specs.Tree.{fields_of, elements_of}
use Rattle.dv_value.specs.Inner.Tree.{weight, fields_weight, elements_weight}
use Rattle.dv_value.specs.View.{tree}
use Rattle.std.proofs.Common.{Some}
use Rattle.dv_value.specs.Tree.{array}
use Rattle.dv_candidates.specs.Inner.Fold.{FoldsOver}
use Rattle.dv_candidates.specs.Inner.Places.{Reaches}
use Rattle.dv_candidates.specs.View.{seen}
use Rattle.dv_candidates.proofs.WalkedArrays.{ReachesBelow}
use Rattle.dv_candidates.proofs.Walks.{Whole, ReachesThere, IsSorted}
use Rattle.dv_candidates.proofs.walk.+walk.Given as goal

abbrev pub decreases-fold_value : goal.decreases-fold_value
decreases-fold_value g l = 4 * weight (tree l.value.now) + 3

abbrev pub decreases-fold_inside : goal.decreases-fold_inside
decreases-fold_inside g l = 4 * weight (tree l.value.now) + 2

abbrev pub decreases-fold_document : goal.decreases-fold_document
decreases-fold_document g l = 4 * fields_weight (fields_of l.document.now) + 5

abbrev pub decreases-fold_list : goal.decreases-fold_list
decreases-fold_list g l = 4 * elements_weight (elements_of l.list.now) + 5

abbrev pub decreases-fold_element : goal.decreases-fold_element
decreases-fold_element g l = 4 * weight (tree l.element.now) + 4

abbrev pub invariant-fold_document-places : goal.invariant-fold_document-places
invariant-fold_document-places g l = record {
  folds : FoldsOver seen (λ t x r. goal.F-post g l.f t x r) (Whole l.components l.places l.document) (ReachesThere l.components l.places l.document l.place l.done) l.fn.so_far l.folded;
  sorted : IsSorted l.components l.places l.document l.place l.done l.missing;
}

abbrev pub invariant-fold_list-elements : goal.invariant-fold_list-elements
invariant-fold_list-elements g l = record {
  folds : FoldsOver seen (λ t x r. goal.F-post g l.f t x r) (Reaches l.components l.places (Some (array (elements_of l.list)))) (ReachesBelow l.components l.places l.list l.index) l.fn.so_far l.folded;
}
