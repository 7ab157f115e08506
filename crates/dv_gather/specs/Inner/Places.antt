-- Places of documents in their list, counted from 0: definitions for bodies.
use Rattle.std.specs.Prelude.{◌≡◌, ℕ, zero, suc, ◌==◌, ◌&&◌, ◌||◌, Bool, false, List, [], ◌∷◌, ◌++◌, Option, Some, None, Vec, map, slice_get, if◌then◌else◌}
use Rattle.std.specs.List.{list_any}
use Rattle.std.specs.BTreeMap.{BTreeMap, get}
use Rattle.dv_value.specs.Tree.{Tree, Field}
use Rattle.dv_order.specs.Key.{KeyTree, key_order}
use Rattle.dv_path.specs.LeafKeys.{is_some_key, leaf_values}
use Rattle.dv_gather.specs.Joining.{as_value, joined_with}

-- whether a place is one of these
abbrev pub is_place : List ℕ → ℕ → Bool
is_place ps i = list_any (λ p. p == i) ps

abbrev pub is_kept : {A : Type 0} → Option (Vec ℕ A) → ℕ → Bool
is_kept None i = false
is_kept (Some ps) i = is_place ps.items i

-- whether a place is kept under a key
abbrev pub is_under : {A : Type 0} → BTreeMap KeyTree (Vec ℕ A) → KeyTree → ℕ → Bool
is_under m k i = is_kept (get key_order m k) i

-- whether an item passes at a place
abbrev pub item_passes_at : {X : Type 0} → (X → Bool) → List X → ℕ → Bool
item_passes_at p [] i = false
item_passes_at p (x ∷ xs) zero = p x
item_passes_at p (x ∷ xs) (suc i) = item_passes_at p xs i

-- whether a document is found under the value of a key
abbrev pub is_found : List (List ℕ) → KeyTree → List Field → Bool
is_found path k d = is_some_key k (leaf_values path d)

-- places with one more, under the keys that pass
abbrev pub AddsPlace : {A : Type 0} → (KeyTree → Bool) → ℕ → BTreeMap KeyTree (Vec ℕ A) → BTreeMap KeyTree (Vec ℕ A) → Type 0
AddsPlace passes place old new = (k : KeyTree) (i : ℕ) → is_under new k i ≡ (is_under old k i || (place == i && passes k))

-- under each key are the places of the documents that are found under it
abbrev pub ArePlaces : {A : Type 0} → BTreeMap KeyTree (Vec ℕ A) → List (List ℕ) → List (List Field) → Type 0
ArePlaces m path ds = (k : KeyTree) (i : ℕ) → is_under m k i ≡ item_passes_at (is_found path k) ds i

-- the values are the documents that a document is joined with, if the map has the places of the documents
abbrev pub AreMatches : {A : Type 0} → BTreeMap KeyTree (Vec ℕ A) → List (List ℕ) → List (List Field) → List Field → List Tree → Type 0
AreMatches m local ds d vs = (foreign : List (List ℕ)) → ArePlaces m foreign ds → vs ≡ map as_value (joined_with local foreign ds d)

-- the items at the places that pass
abbrev pub items_chosen : {X : Type 0} → (ℕ → Bool) → List X → List X
items_chosen p [] = []
items_chosen p (x ∷ xs) = if p 0 then x ∷ items_chosen (λ i. p (suc i)) xs else items_chosen (λ i. p (suc i)) xs

-- the item at a place, if there is one
abbrev pub item_at : {X : Type 0} → Option X → List X
item_at None = []
item_at (Some x) = x ∷ []

-- the items at these places
abbrev pub items_at : {X : Type 0} → List ℕ → List X → List X
items_at [] xs = []
items_at (p ∷ ps) xs = item_at (slice_get xs p) ++ items_at ps xs
