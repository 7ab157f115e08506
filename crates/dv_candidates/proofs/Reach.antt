-- The candidates of the rest of a path, one component further.
use Rattle.std.proofs.Common.{◌≡◌, ℕ, zero, suc, ◌<◌, ◌⊎◌, inl, inr, ◌||◌, Bool, true, false, List, [], ◌∷◌, ◌++◌, length, drop, get_or, Option, Some, None, slice_get, refl, ap, sym, ◌∙◌, arith, append-nil}
use Rattle.std.specs.List.{flat_map, list_any}
use Rattle.std.proofs.Math.Seq.{drop-cons}
use Rattle.std.proofs.lemmas.Grind.{flat_map-append}
use Rattle.dv_value.specs.Tree.{Tree, document, array, Fields, list_of_fields, Elements, list_of_elements}
use Rattle.dv_value.specs.Names.{value_under}
use Rattle.dv_candidates.specs.Path.{index_of}
use Rattle.dv_candidates.specs.Candidates.{Candidate, entered, candidate_found, picked, step_from, candidates}
use Rattle.dv_candidates.specs.Inner.Places.{passes_at, IsDocument}
use Rattle.dv_candidates.proofs.Folds.{any-cases, any-left, any-right, either}

-- the component at a place
abbrev pub name_at : List (List ℕ) → ℕ → List ℕ
name_at names place = get_or names place []

pub passes_at-within : (test : List ℕ → Bool) (names : List (List ℕ)) (place : ℕ) → place < length names → passes_at test names place ≡ test (name_at names place)
passes_at-within test [] place h = absurd (omega arith)
passes_at-within test (name ∷ names) zero h = refl
passes_at-within test (name ∷ names) (suc place) h = passes_at-within test names place (omega arith)

pub passes_at-before : (test : List ℕ → Bool) (names : List (List ℕ)) (place : ℕ) → passes_at test names place ≡ true → place < length names
passes_at-before test [] place h = absurd cc
passes_at-before test (name ∷ names) zero h = omega arith
passes_at-before test (name ∷ names) (suc place) h = omega (arith, passes_at-before test names place h)

-- Missing stays Missing
pub candidates-missing : (names : List (List ℕ)) → candidates names None ≡ None ∷ []
candidates-missing [] = refl
candidates-missing (name ∷ names) = ap (λ cs. cs ++ []) (candidates-missing names)

module _ (p : Candidate → Bool) where
  -- a test that a candidate passes
  abbrev pub hits : List (List ℕ) → Candidate → Bool
  hits names c = list_any p (candidates names c)

  any-nil : (cs : List Candidate) → list_any p (cs ++ []) ≡ list_any p cs
  any-nil cs = ap (list_any p) (append-nil cs)

  pub missing-hits : (names : List (List ℕ)) → hits names None ≡ p None
  missing-hits names = ap (list_any p) (candidates-missing names) ∙ sym (or-false (p None))
    where
      or-false : (b : Bool) → b ≡ (b || false)
      or-false true = refl
      or-false false = refl

  -- a document is entered
  pub hits-document : (names : List (List ℕ)) (place : ℕ) (fs : Fields) → place < length names → hits (drop place names) (Some (document fs)) ≡ hits (drop (suc place) names) (value_under (name_at names place) (list_of_fields fs))
  hits-document names place fs h = ap (λ ns. hits ns (Some (document fs))) (drop-cons names place [] h) ∙ any-nil (candidates (drop (suc place) names) (value_under (name_at names place) (list_of_fields fs)))

  any-flat-to : (names : List (List ℕ)) (name : List ℕ) (v : Tree) → list_any p (flat_map (candidates names) (entered name v)) ≡ true → IsDocument v × (hits (name ∷ names) (Some v) ≡ true)
  any-flat-to names name (document fs) h = (tt, h)
  any-flat-to names name v h = absurd cc

  any-flat-from : (names : List (List ℕ)) (name : List ℕ) (v : Tree) → IsDocument v → hits (name ∷ names) (Some v) ≡ true → list_any p (flat_map (candidates names) (entered name v)) ≡ true
  any-flat-from names name (document fs) d h = h
  any-flat-from names name v d h = absurd d

  -- an element that is entered
  entered-to : (names : List (List ℕ)) (name : List ℕ) (vs : List Tree) → list_any p (flat_map (candidates names) (flat_map (entered name) vs)) ≡ true → (k : ℕ) × (v : Tree) × (slice_get vs k ≡ Some v) × IsDocument v × (hits (name ∷ names) (Some v) ≡ true)
  entered-to names name [] h = absurd cc
  entered-to names name (v ∷ vs) h =
      let split = any-cases p (flat_map (candidates names) (entered name v)) (flat_map (candidates names) (flat_map (entered name) vs)) (ap (list_any p) (sym (flat_map-append (candidates names) (entered name v) (flat_map (entered name) vs))) ∙ h) in
      elim split [
        | inl here ↦ let found_it = any-flat-to names name v here in (0, v, refl, found_it.0, found_it.1)
        | inr later ↦ let rest = entered-to names name vs later in (suc rest.0, rest.1, rest.2, rest.3, rest.4)
      ]

  entered-from : (names : List (List ℕ)) (name : List ℕ) (vs : List Tree) (k : ℕ) (v : Tree) → slice_get vs k ≡ Some v → IsDocument v → hits (name ∷ names) (Some v) ≡ true → list_any p (flat_map (candidates names) (flat_map (entered name) vs)) ≡ true
  entered-from names name [] k v e d h = absurd cc
  entered-from names name (w ∷ vs) zero v e d h =
      let same : w ≡ v = cc in
      ap (list_any p) (flat_map-append (candidates names) (entered name w) (flat_map (entered name) vs)) ∙ any-left p (flat_map (candidates names) (entered name w)) _ (ap (λ x. list_any p (flat_map (candidates names) (entered name x))) same ∙ any-flat-from names name v d h)
  entered-from names name (w ∷ vs) (suc k) v e d h =
      ap (list_any p) (flat_map-append (candidates names) (entered name w) (flat_map (entered name) vs)) ∙ any-right p _ _ (entered-from names name vs k v e d h)

  -- an element that is picked
  found-to : (names : List (List ℕ)) (c : Candidate) → list_any p (flat_map (candidates names) (candidate_found c)) ≡ true → (v : Tree) × (c ≡ Some v) × (hits names (Some v) ≡ true)
  found-to names None h = absurd cc
  found-to names (Some v) h = (v, refl, sym (any-nil (candidates names (Some v))) ∙ h)

  picked-to : (names : List (List ℕ)) (o : Option ℕ) (vs : List Tree) → list_any p (flat_map (candidates names) (picked o vs)) ≡ true → (k : ℕ) × (v : Tree) × (slice_get vs k ≡ Some v) × (o ≡ Some k) × (hits names (Some v) ≡ true)
  picked-to names None vs h = absurd cc
  picked-to names (Some k) vs h = let it = found-to names (slice_get vs k) h in (k, it.0, it.1, refl, it.2)

  picked-from : (names : List (List ℕ)) (o : Option ℕ) (vs : List Tree) (k : ℕ) (v : Tree) → slice_get vs k ≡ Some v → o ≡ Some k → hits names (Some v) ≡ true → list_any p (flat_map (candidates names) (picked o vs)) ≡ true
  picked-from names o vs k v e is h = rw (is, e) (any-nil (candidates names (Some v)) ∙ h)

  -- a way through an element of an array
  abbrev pub Way : List (List ℕ) → ℕ → ℕ → Tree → Type 0
  Way names place k v = ((index_of (name_at names place) ≡ Some k) × (hits (drop (suc place) names) (Some v) ≡ true)) ⊎ (IsDocument v × (hits (drop place names) (Some v) ≡ true))

  array-to : (names : List (List ℕ)) (name : List ℕ) (vs : List Tree) → list_any p (flat_map (candidates names) (picked (index_of name) vs ++ flat_map (entered name) vs)) ≡ true → (k : ℕ) × (v : Tree) × (slice_get vs k ≡ Some v) × (((index_of name ≡ Some k) × (hits names (Some v) ≡ true)) ⊎ (IsDocument v × (hits (name ∷ names) (Some v) ≡ true)))
  array-to names name vs h =
      let split = any-cases p (flat_map (candidates names) (picked (index_of name) vs)) (flat_map (candidates names) (flat_map (entered name) vs)) (ap (list_any p) (sym (flat_map-append (candidates names) (picked (index_of name) vs) (flat_map (entered name) vs))) ∙ h) in
      elim split [
        | inl here ↦ let it = picked-to names (index_of name) vs here in (it.0, it.1, it.2, inl (it.3, it.4))
        | inr here ↦ let it = entered-to names name vs here in (it.0, it.1, it.2, inr (it.3, it.4))
      ]

  array-from : (names : List (List ℕ)) (name : List ℕ) (vs : List Tree) (k : ℕ) (v : Tree) → slice_get vs k ≡ Some v → ((index_of name ≡ Some k) × (hits names (Some v) ≡ true)) ⊎ (IsDocument v × (hits (name ∷ names) (Some v) ≡ true)) → list_any p (flat_map (candidates names) (picked (index_of name) vs ++ flat_map (entered name) vs)) ≡ true
  array-from names name vs k v e way =
      ap (list_any p) (flat_map-append (candidates names) (picked (index_of name) vs) (flat_map (entered name) vs)) ∙ (elim way [
        | inl w ↦ any-left p _ _ (picked-from names (index_of name) vs k v e w.0 w.1)
        | inr w ↦ any-right p _ _ (entered-from names name vs k v e w.0 w.1)
      ])

  -- an array gives what its elements give
  pub hits-array-to : (names : List (List ℕ)) (place : ℕ) (es : Elements) → place < length names → hits (drop place names) (Some (array es)) ≡ true → (k : ℕ) × (v : Tree) × (slice_get (list_of_elements es) k ≡ Some v) × Way names place k v
  hits-array-to names place es h on =
      let at = drop-cons names place [] h in
      let it = array-to (drop (suc place) names) (name_at names place) (list_of_elements es) (ap (λ ns. hits ns (Some (array es))) (sym at) ∙ on) in
      (it.0, it.1, it.2, either inl (λ w. inr (w.0, ap (λ ns. hits ns (Some it.1)) at ∙ w.1)) it.3)

  pub hits-array-from : (names : List (List ℕ)) (place : ℕ) (es : Elements) (k : ℕ) (v : Tree) → place < length names → slice_get (list_of_elements es) k ≡ Some v → Way names place k v → hits (drop place names) (Some (array es)) ≡ true
  hits-array-from names place es k v h e way =
      let at = drop-cons names place [] h in
      ap (λ ns. hits ns (Some (array es))) at ∙ array-from (drop (suc place) names) (name_at names place) (list_of_elements es) k v e (either inl (λ w. inr (w.0, ap (λ ns. hits ns (Some v)) (sym at) ∙ w.1)) way)

  -- anything else gives Missing
  pub hits-plain : (names : List (List ℕ)) (place : ℕ) (v : Tree) → place < length names → (name : List ℕ) → step_from (name_at names place) (Some v) ≡ None ∷ [] → hits (drop place names) (Some v) ≡ p None
  hits-plain names place v h name plain =
      ap (λ ns. hits ns (Some v)) (drop-cons names place [] h) ∙ ap (λ cs. list_any p (flat_map (candidates (drop (suc place) names)) cs)) plain ∙ any-nil (candidates (drop (suc place) names) None) ∙ missing-hits (drop (suc place) names)
