use Rattle.std.proofs.Common.{◌≡◌, ◌+◌, length, map}
use Rattle.std.specs.Vec.Iter.{into_iter_items}
use Rattle.dv_catalog.specs.Changes.{put}
use Rattle.dv_catalog.specs.Inner.EffectView.{ArePlaced, AreUpdatesOf, after_of}
use Rattle.dv_catalog.proofs.Stopping.{AreMadeSoFar}
use Rattle.dv_catalog.proofs.update.put_each.Given as goal

-- what was put so far, and what is left to be put into the collection as it is now
abbrev pub invariant-documents : goal.invariant-documents
invariant-documents l = record {
  made : AreMadeSoFar put l.fn.collection (map (after_of l.fn.name) l.fn.each.items) l.made (map (after_of l.fn.name) (into_iter_items l.document-iterator)) l.collection;
  placed : ArePlaced l.collection.documents (map put (map (after_of l.fn.name) (into_iter_items l.document-iterator)));
  standing : AreUpdatesOf l.collection.documents l.fn.name (into_iter_items l.document-iterator);
  counted : l.made + length (into_iter_items l.document-iterator) ≡ length l.fn.each.items;
  all : l.count ≡ length l.fn.each.items;
}
