use Rattle.std.proofs.Common.{◌≡◌, ◌++◌, drop, map}
use Rattle.std.specs.List.{AllByRecursion}
use Rattle.dv_coll.specs.Collection.{HasId}
use Rattle.dv_catalog.specs.Inner.EffectView.{after_of}
use Rattle.dv_catalog.specs.Inner.Told.{updates_told}
use Rattle.dv_catalog.proofs.view_changes.all_put.Given as goal

abbrev pub invariant-documents : goal.invariant-documents
invariant-documents l = record {
  told : l.all.items ++ updates_told l.fn.updates.name (drop l.document-index l.fn.updates.each.items) ≡ updates_told l.fn.updates.name l.fn.updates.each.items;
  identified : AllByRecursion HasId (map (after_of l.fn.updates.name) (drop l.document-index l.fn.updates.each.items));
}
