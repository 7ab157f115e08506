-- Sets of places in a path, at which a walk has reached a value.
use Rattle.std.specs.Prelude.{◌≡◌, ℕ, zero, suc, ◌<◌, ◌≤◌, ◌==◌, ◌&&◌, nat_lt, Bool, true, false, List, [], ◌∷◌, length, drop, slice_index_or, Option, Some, None, ◌⊎◌, ⊤}
use Rattle.std.specs.Int.{bit_at}
use Rattle.std.specs.List.{list_any}
use Rattle.dv_candidates.specs.declared.places.Places.{Places}
use Rattle.dv_value.specs.Tree.{Tree, document}
use Rattle.dv_candidates.specs.Path.{index_of}
use Rattle.dv_candidates.specs.Candidates.{Candidate, candidates}

-- whether a place is in the set
unfoldable pub has : Places → ℕ → Bool
has s place = nat_lt place 64 && bit_at s.mask place == 1

-- no place is beyond the end, after the last component
pub record IsWithin (names : List (List ℕ)) (s : Places) : Type 0 where
  pub within : (place : ℕ) → has s place ≡ true → place ≤ length names

-- each place has a component
pub record IsBefore (names : List (List ℕ)) (s : Places) : Type 0 where
  pub before : (place : ℕ) → has s place ≡ true → place < length names

-- the component at each place has this name
pub record HaveName (names : List (List ℕ)) (s : Places) (name : List ℕ) : Type 0 where
  pub named : (place : ℕ) → has s place ≡ true → slice_index_or names place [] ≡ name

-- whether the component at a place passes a test
abbrev pub passes_at : (List ℕ → Bool) → List (List ℕ) → ℕ → Bool
passes_at test [] place = false
passes_at test (name ∷ names) zero = test name
passes_at test (name ∷ names) (suc place) = passes_at test names place

-- of places, those whose component passes a test
abbrev pub AreThose : (List ℕ → Bool) → List (List ℕ) → Places → Places → Type 0
AreThose test names all those = (place : ℕ) → has those place ≡ (has all place && passes_at test names place)

-- whether a place follows one that is in a set
abbrev pub follows : (ℕ → Bool) → ℕ → Bool
follows inside zero = false
follows inside (suc place) = inside place

-- whether a component picks the element at a place
abbrev pub picks : ℕ → Option ℕ → Bool
picks index None = false
picks index (Some place) = place == index

abbrev pub IsDocument : Tree → Type 0
IsDocument (document fs) = ⊤
IsDocument v = ⊥

-- a test that passes for one of the candidates that the rest of the path, from one of the places on, has from c
pub record Reaches (names : List (List ℕ)) (s : Places) (c : Candidate) (p : Candidate → Bool) : Type 0 where
  pub place : ℕ
  pub inside : has s place ≡ true
  pub passes : list_any p (candidates (drop place names) c) ≡ true

-- the same for an element of an array that is reached at the places: it is picked, or is a document and entered
pub record ReachesElement (names : List (List ℕ)) (s : Places) (index : ℕ) (v : Tree) (p : Candidate → Bool) : Type 0 where
  pub place : ℕ
  pub inside : has s place ≡ true
  pub way : ((index_of (slice_index_or names place []) ≡ Some index) × (list_any p (candidates (drop (suc place) names) (Some v)) ≡ true)) ⊎ (IsDocument v × (list_any p (candidates (drop place names) (Some v)) ≡ true))
