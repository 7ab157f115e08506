-- Changes that are passed to views are those that are made.
use Rattle.std.proofs.Common.{◌≡◌, List, [], ◌∷◌, ◌++◌, map, is_some, if◌then◌else◌, refl, sym, ap, subst, ◌∙◌}
use Rattle.std.specs.List.{AllByRecursion}
use Rattle.dv_value.specs.Tree.{Field}
use Rattle.dv_coll.specs.Collection.{HasId, IsAscending, found, id_key, inserted, removed, replaced}
use Rattle.dv_change.specs.declared.change.Change as flow
use Rattle.dv_change.specs.declared.change.Change.TheVariants.{Put, Gone}
use Rattle.dv_change.specs.declared.position.Part.TheVariants.{Up}
use Rattle.dv_order.specs.Key.{KeyTree}
use Rattle.dv_views.specs.Changed.{documents_changed}
use Rattle.dv_views.specs.Inner.Changed.{AreMade, AreMadeInTurn, IsMade}
use Rattle.dv_views.specs.Placed.{own_position}
use Rattle.dv_catalog.specs.Changes.{Change, put, gone, with_change, with_changes}
use Rattle.dv_catalog.specs.Inner.EffectView.{AreAble, BeginsWithId, IsAble}
use Rattle.dv_catalog.specs.State.{AreOrdered}
use Rattle.dv_catalog.specs.Told.{told}

pub record Laws : Type 0 where
  pub keeps : (documents : List (List Field)) (change : Change) → AreOrdered documents → BeginsWithId change → AreOrdered (with_change documents change)
  pub puts : (d : List Field) (ds : List (List Field)) → IsAscending ds → documents_changed (Put (own_position d) d ∷ []) ds ≡ (if is_some (found (id_key d) ds) then replaced d ds else inserted d ds)
  pub goes : (k : KeyTree) (ds : List (List Field)) → IsAscending ds → documents_changed (Gone (Up k ∷ []) ∷ []) ds ≡ removed k ds
  pub nothing : (ds : List (List Field)) → documents_changed [] ds ≡ ds
  pub follow : (first second : List flow.Change) (ds : List (List Field)) → AllByRecursion HasId ds → AreMadeInTurn first ds → documents_changed (first ++ second) ds ≡ documents_changed second (documents_changed first ds)

begins : (change : Change) (documents : List (List Field)) → IsAble documents change → BeginsWithId change
begins (put d) documents able = able
begins (gone k) documents able = tt

is_made : (change : Change) (documents : List (List Field)) → IsAble documents change → IsMade (told change) documents
is_made (put d) documents able = (able, refl)
is_made (gone k) documents able = able

module _ (laws : Laws) where
  told_one : (change : Change) (ds : List (List Field)) → AreOrdered ds → documents_changed (told change ∷ []) ds ≡ with_change ds change
  told_one (put d) ds ordered = laws.puts d ds ordered.0
  told_one (gone k) ds ordered = laws.goes k ds ordered.0

  told_in_turn : (changes : List Change) (ds : List (List Field)) → AreOrdered ds → AreAble ds changes → AreMadeInTurn (map told changes) ds × (documents_changed (map told changes) ds ≡ with_changes ds changes)
  told_in_turn [] ds ordered able = (tt, laws.nothing ds)
  told_in_turn (change ∷ changes) ds ordered able =
      let one = told_one change ds ordered in
      let made = is_made change ds able.0 in
      let rest = told_in_turn changes (with_change ds change) (laws.keeps ds change ordered (begins change ds able.0)) able.1 in (
        (made, subst (AreMadeInTurn (map told changes)) (sym one) rest.0),
        laws.follow (told change ∷ []) (map told changes) ds ordered.1 (made, tt) ∙ ap (documents_changed (map told changes)) one ∙ rest.1,
      )

  pub told_made : (ds : List (List Field)) (changes : List Change) → AreOrdered ds → AreAble ds changes → AreMade (map told changes) ds × (documents_changed (map told changes) ds ≡ with_changes ds changes)
  told_made ds changes ordered able =
      let turn = told_in_turn changes ds ordered able in
      (record { ascending = ordered.0; identified = ordered.1; in_turn = turn.0 }, turn.1)

-- documents that are put begin with their `_id`s
pub all_identified : (ds : List (List Field)) → AllByRecursion BeginsWithId (map put ds) → AllByRecursion HasId ds
all_identified [] all = tt
all_identified (d ∷ ds) all = (all.0, all_identified ds all.1)
