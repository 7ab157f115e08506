use Rattle.std.proofs.Common.{◌≡◌, List, ◌∷◌, arith, length, map, sym, ap, subst, ◌∙◌}
use Rattle.std.specs.Vec.Iter.{into_iter_items}
use Rattle.dv_value.specs.Tree.{Field}
use Rattle.dv_index.specs.Indexed.{IndexedTree}
use Rattle.dv_index.specs.Inner.Indexed.{with_documents}
use Rattle.dv_catalog.specs.declared.effect.Updated.{Updated}
use Rattle.dv_catalog.specs.Changes.{put, with_put}
use Rattle.dv_catalog.specs.Inner.EffectView.{ArePlaced, AreUpdatesOf, after_of}
use Rattle.dv_catalog.proofs.Stopping.{AreMadeSoFar, made_more, put_replaced}
use Rattle.dv_catalog.proofs.Updated.{next_updates}
use Rattle.dv_catalog.proofs.update.put_each.Goals as goal

pub documents-preserved : goal.documents-preserved
documents-preserved c =
    let name = c.args.name.now in
    let all = map (after_of name) c.args.each.items in
    let left : List Updated = into_iter_items c.next.new.self in
    let u : Updated = c.in-Some.document in
    let d : List Field = after_of name u in
    let was : IndexedTree = c.documents.collection in
    let so_far : AreMadeSoFar put c.args.collection.now all c.documents.made (d ∷ map (after_of name) left) was =
    subst (λ (xs : List Updated). AreMadeSoFar put c.args.collection.now all c.documents.made (map (after_of name) xs) was) c.in-Some.ensures.steps.0 c.documents.invariant.made in
    let placed : ArePlaced was.documents (map put (d ∷ map (after_of name) left)) =
    subst (λ (xs : List Updated). ArePlaced was.documents (map put (map (after_of name) xs))) c.in-Some.ensures.steps.0 c.documents.invariant.placed in
    let standing : AreUpdatesOf was.documents name (u ∷ left) = subst (AreUpdatesOf was.documents name) c.in-Some.ensures.steps.0 c.documents.invariant.standing in
    let goes : c.put_one.new.collection ≡ with_documents (with_put d was.documents) was = c.in-Ok.ensures.ok ∙ ap (λ (ds : List (List Field)). with_documents ds was) (sym (put_replaced d was.documents placed.0.1)) in
    record {
      made = made_more put c.args.collection.now all c.documents.made d (map (after_of name) left) was c.put_one.new.collection so_far goes;
      placed = subst (λ (x : IndexedTree). ArePlaced x.documents (map put (map (after_of name) left))) (sym goes) placed.1;
      standing = subst (λ (x : IndexedTree). AreUpdatesOf x.documents name left) (sym c.in-Ok.ensures.ok) (next_updates c.documents_stand_where_they_are_found.ensures.others was.documents name u left standing);
      counted = omega (arith, c.documents.invariant.counted, ap length c.in-Some.ensures.steps.0);
      all = c.documents.invariant.all;
    }
