use Rattle.std.proofs.Common.{List, take, sym, ap, subst, ◌∙◌}
use Rattle.dv_value.specs.Tree.{Field}
use Rattle.dv_catalog.specs.Changes.{Change, apply}
use Rattle.dv_catalog.specs.Inner.EffectView.{ArePlaced, StandsFor, changes_seen}
use Rattle.dv_catalog.specs.State.{Collection}
use Rattle.dv_catalog.specs.Inner.View.{standing_by_namespace}
use Rattle.dv_catalog.proofs.ByNamespace.{applied, collection-there, same-written, standing-written, with_collection}
use Rattle.dv_catalog.proofs.Stopping.{take_none}
use Rattle.dv_catalog.proofs.collections.Collections.make.Goals as goal
use Rattle.dv_catalog.proofs.collections.Collections.make.Goals.{in-Some, in-None+in-Put-1, in-None+in-Gone-1}

pub make_in-requires : goal.make_in-requires
make_in-requires c =
    let are = collection-there c.self.inside.collections c.args.namespace.now _ c.in-Some.ensures.value in
    let there = ap (λ (x : Collection). x.documents) are in
    record {
      placed = subst (λ (ds : List (List Field)). ArePlaced ds (changes_seen c.args.changes)) there (rw (← c.self.view_is) at c.requires.placed);
      standing = subst (λ (ds : List (List Field)). StandsFor ds c.args.changes) there (rw (← c.self.view_is) at c.requires.standing);
    }

pub returns-clause-made : goal.returns-clause-made
returns-clause-made c =
    let before = standing_by_namespace c.self.inside.collections in
    let name = c.args.namespace.now in
    let changes = changes_seen c.args.changes in
    elim c.match-get_mut.branch [
      | in-Some w ↦
          let there = w.in-Some.ensures.value in
          let written = w.make_in.new.collection in
          let left = standing-written c.self.inside.collections (c.get_mut.follows.lender written) name _ written there (c.get_mut.follows.holds written) in
          rw (w.self-inside-is, w.result-is, ← c.self.view_is)
          (applied before name _ (collection-there c.self.inside.collections name _ there) (same-written c.self.inside.collections name _ there) (take w.make_in.result changes) _
          (left ∙ ap (λ (x : Collection). with_collection name x before) w.make_in.ensures.made))
      | in-None+in-Put-1 w ↦ rw (w.self-inside-is, w.result-is, ← c.self.view_is) (rw c.get_mut.follows.holds-at-none (ap (λ (cs : List Change). apply name cs before) (sym (take_none changes))))
      | in-None+in-Gone-1 w ↦ rw (w.self-inside-is, w.result-is, ← c.self.view_is) (rw c.get_mut.follows.holds-at-none (ap (λ (cs : List Change). apply name cs before) (sym (take_none changes))))
    ]
