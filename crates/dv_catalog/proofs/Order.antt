-- Documents stay in order.
use Rattle.std.proofs.Common.{◌≡◌, cond, List, Option, Some, None, is_some, refl}
use Rattle.std.specs.List.{AllByRecursion}
use Rattle.dv_value.specs.Tree.{Field}
use Rattle.dv_order.specs.Key.{KeyTree}
use Rattle.dv_coll.specs.Collection.{HasId, IsAscending, found, id_key, inserted, removed, replaced}
use Rattle.dv_catalog.specs.Changes.{Change, put, gone, with_change}
use Rattle.dv_catalog.specs.Inner.EffectView.{BeginsWithId}
use Rattle.dv_catalog.specs.State.{AreOrdered}

pub record CollectionLaws : Type 0 where
  pub inserted_ascend : (d : List Field) (ds : List (List Field)) → IsAscending ds → found (id_key d) ds ≡ None → IsAscending (inserted d ds)
  pub inserted_ids : (d : List Field) (ds : List (List Field)) → HasId d → AllByRecursion HasId ds → AllByRecursion HasId (inserted d ds)
  pub removed_ascend : (k : KeyTree) (ds : List (List Field)) → IsAscending ds → IsAscending (removed k ds)
  pub removed_ids : (k : KeyTree) (ds : List (List Field)) → AllByRecursion HasId ds → AllByRecursion HasId (removed k ds)
  pub replaced_ascend : (d : List Field) (ds : List (List Field)) → HasId d → AllByRecursion HasId ds → IsAscending ds → IsAscending (replaced d ds)
  pub replaced_ids : (d : List Field) (ds : List (List Field)) → HasId d → AllByRecursion HasId ds → AllByRecursion HasId (replaced d ds)

module _ (laws : CollectionLaws) where
  put_ordered : (d : List Field) (ds : List (List Field)) (there : Option (List Field)) → found (id_key d) ds ≡ there → HasId d → AreOrdered ds → AreOrdered (cond (is_some there) (replaced d ds) (inserted d ds))
  put_ordered d ds None none has_id ordered = (laws.inserted_ascend d ds ordered.0 none, laws.inserted_ids d ds has_id ordered.1)
  put_ordered d ds (Some e) there has_id ordered = (laws.replaced_ascend d ds has_id ordered.1 ordered.0, laws.replaced_ids d ds has_id ordered.1)

  pub change_ordered : (ds : List (List Field)) (change : Change) → AreOrdered ds → BeginsWithId change → AreOrdered (with_change ds change)
  change_ordered ds (put d) ordered has_id = put_ordered d ds (found (id_key d) ds) refl has_id ordered
  change_ordered ds (gone k) ordered good = (laws.removed_ascend k ds ordered.0, laws.removed_ids k ds ordered.1)
