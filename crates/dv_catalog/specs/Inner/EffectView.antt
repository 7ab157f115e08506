-- How the effect of a statement is represented in memory.
use Rattle.std.specs.Prelude.{◌≡◌, ◌<◌, ◌⊎◌, ℕ, true, false, List, [], ◌∷◌, codes, length, map, take, is_some, if◌then◌else◌, ⊤}
use Rattle.std.specs.Str.{bytes_eq}
use Rattle.dv_value.specs.Names.{has_zero}
use Rattle.dv_value.specs.Tree.{Field}
use Rattle.dv_coll.specs.Collection.{AreStanding, HasId, found, id_key}
use Rattle.dv_update.specs.Outcome.{outcome_seen, stays}
use Rattle.dv_update.specs.declared.outcome.Outcome.{Outcome}
use Rattle.dv_catalog.specs.declared.effect.Changes as memory
use Rattle.dv_catalog.specs.declared.effect.Changes.TheVariants.{Put, Gone}
use Rattle.dv_catalog.specs.declared.effect.Effect as memory_effect
use Rattle.dv_catalog.specs.declared.effect.Updated.{Updated}
use Rattle.dv_catalog.specs.Changes.{Change, Effect, put, gone, with_change}

-- an updated document, as it is after the update
abbrev pub after_of : List ℕ → Updated → List Field
after_of name u = outcome_seen name u.before u.outcome

-- all updated documents, as they are after the update
abbrev pub new_documents : List ℕ → List Updated → List (List Field)
new_documents name each = map (after_of name) each

-- all updated documents, as they were before
abbrev pub old_documents : List Updated → List (List Field)
old_documents each = map (λ u. u.before) each

-- the changes that put the updated documents
abbrev pub update_changes : List ℕ → List Updated → List Change
update_changes name each = map put (new_documents name each)

-- this value alone, or nothing if an outcome leaves its document the same
abbrev pub unless_it_stays : {A : Type 0} → Outcome → A → List A
unless_it_stays outcome x = if stays outcome then [] else x ∷ []

abbrev pub changes_seen : memory.Changes → List Change
changes_seen (Put updates) = update_changes updates.name updates.each.items
changes_seen (Gone keys) = map gone keys.items

abbrev pub effect_seen : memory_effect.Effect → Effect
effect_seen e = record { matched = e.matched; changes = changes_seen e.changes }

abbrev pub BeginsWithId : Change → Type 0
BeginsWithId (put d) = HasId d
BeginsWithId (gone k) = ⊤

-- a document that is put begins with an `_id`, and replaces a document that is there; a document that is removed is there
abbrev pub IsPlaced : List (List Field) → Change → Type 0
IsPlaced documents (put d) = HasId d × (is_some (found (id_key d) documents) ≡ true)
IsPlaced documents (gone k) = is_some (found k documents) ≡ true

-- each of the changes, when its turn comes
abbrev pub ArePlaced : List (List Field) → List Change → Type 0
ArePlaced documents [] = ⊤
ArePlaced documents (change ∷ changes) = IsPlaced documents change × ArePlaced (with_change documents change) changes

-- a document that is put begins with an `_id`; a document that is removed is there
abbrev pub IsAble : List (List Field) → Change → Type 0
IsAble documents (put d) = HasId d
IsAble documents (gone k) = is_some (found k documents) ≡ true

-- each of the changes, when its turn comes
abbrev pub AreAble : List (List Field) → List Change → Type 0
AreAble documents [] = ⊤
AreAble documents (change ∷ changes) = IsAble documents change × AreAble (with_change documents change) changes

-- the documents to be updated are there as they were before, and keep their `_id`s; the name of the field, if only one is changed,
-- is not `_id`, and has no zero byte
pub record AreUpdatesOf (documents : List (List Field)) (name : List ℕ) (each : List Updated) : Type 0 where
  pub standing : AreStanding documents (map (λ u. u.before) each)
  pub same_ids : map id_key (map (after_of name) each) ≡ map id_key (map (λ u. u.before) each)
  pub no_id : bytes_eq name (codes "_id") ≡ false
  pub whole : has_zero name ≡ false

abbrev pub StandsFor : List (List Field) → memory.Changes → Type 0
StandsFor documents (Put updates) = AreUpdatesOf documents updates.name updates.each.items
StandsFor documents (Gone keys) = ⊤

-- the first changes of a list, but not all of them; or none
pub record AreFirst (some all : List Change) : Type 0 where
  pub count : ℕ
  pub fewer : (count ≡ 0) ⊎ (count < length all)
  pub are : some ≡ take count all
