-- Items one after the other.
use Rattle.std.proofs.Common.{◌≡◌, ℕ, zero, suc, ◌^◌, ◌<◌, ◌≤◌, Bool, true, List, [], ◌∷◌, ◌++◌, length, map, Option, Some, None, refl, sym, ap, subst, ◌∙◌, append_assoc, arith}
use Rattle.std.specs.List.{list_all, flat_map}
use Rattle.std.proofs.lemmas.Bool.{and_parts}
use Rattle.std.proofs.lemmas.List.{append-nil, length-append, map-append}
use Rattle.dv_value.specs.Spelling.{IsBytes}
use Rattle.dv_message.specs.Sections.{onto, row_from, row_within, each_in}
use Rattle.dv_message.proofs.Bytes.{IsBytes-behind}

-- an item that is found at the front takes at least one byte
pub record Advances {A : Type 0} (at_front : List ℕ → Option (A × List ℕ)) : Type 0 where
  pub shorter : (bytes : List ℕ) (x : A) (rest : List ℕ) → at_front bytes ≡ Some (x, rest) → length rest < length bytes

same_from : {A : Type 0} (found : Option (A × List ℕ)) (F G : List ℕ → Option (List A)) → ((x : A) (rest : List ℕ) → found ≡ Some (x, rest) → F rest ≡ G rest) → row_from found F ≡ row_from found G
same_from None F G same = refl
same_from (Some (x, rest)) F G same = ap (onto x) (same x rest refl)

-- these items before the others
abbrev pub before : {A : Type 0} → List A → Option (List A) → Option (List A)
before xs None = None
before xs (Some ys) = Some (xs ++ ys)

before-nil : {A : Type 0} (o : Option (List A)) → o ≡ before [] o
before-nil None = refl
before-nil (Some ys) = refl

before-onto : {A : Type 0} (xs : List A) (x : A) (o : Option (List A)) → before xs (onto x o) ≡ before (xs ++ x ∷ []) o
before-onto xs x None = refl
before-onto xs x (Some ys) = ap Some (sym (append_assoc xs (x ∷ []) ys))

module _ {A : Type 0} (at_front : List ℕ → Option (A × List ℕ)) where
  within_nothing : (steps : ℕ) → row_within at_front steps [] ≡ Some []
  unfolding row_within
  within_nothing zero = refl
  within_nothing (suc steps) = refl

  pub row_nothing : each_in at_front [] ≡ Some []
  unfolding each_in
  row_nothing = within_nothing 0

  -- these items were found, and those of the rest follow
  pub record Comes (all : List ℕ) (found : List A) (rest : List ℕ) : Type 0 where
    pub by : each_in at_front all ≡ before found (each_in at_front rest)

  pub begins : (bytes : List ℕ) → Comes bytes [] bytes
  begins bytes = record { by = before-nil (each_in at_front bytes) }

  pub at_end : (all : List ℕ) (found : List A) (rest : List ℕ) → Comes all found rest → length rest ≡ 0 → each_in at_front all ≡ Some found
  at_end all found [] comes none = comes.by ∙ ap (before found) row_nothing ∙ ap Some (append-nil found)
  at_end all found (b ∷ rest) comes none = absurd (omega arith)

  module _ (advances : Advances at_front) where
    -- more steps than there are bytes give the same
    same_steps : (m n : ℕ) (bytes : List ℕ) → length bytes ≤ m → length bytes ≤ n → row_within at_front m bytes ≡ row_within at_front n bytes
    unfolding row_within
    same_steps m n [] le le' = within_nothing m ∙ sym (within_nothing n)
    same_steps zero n (b ∷ bytes) le le' = absurd (omega arith)
    same_steps (suc m) zero (b ∷ bytes) le le' = absurd (omega arith)
    same_steps (suc m) (suc n) (b ∷ bytes) le le' =
        same_from (at_front (b ∷ bytes)) (row_within at_front m) (row_within at_front n) (λ x rest e.
        let less = advances.shorter (b ∷ bytes) x rest e in same_steps m n rest (omega arith) (omega arith))

    row_step : (b : ℕ) (bytes : List ℕ) → each_in at_front (b ∷ bytes) ≡ row_from (at_front (b ∷ bytes)) (each_in at_front)
    unfolding each_in row_within
    row_step b bytes =
        same_from (at_front (b ∷ bytes)) (row_within at_front (length bytes)) (each_in at_front) (λ x rest e.
        let less = advances.shorter (b ∷ bytes) x rest e in same_steps (length bytes) (length rest) rest (omega arith) (omega arith))

    pub row_first : (bytes : List ℕ) (x : A) (rest : List ℕ) → at_front bytes ≡ Some (x, rest) → each_in at_front bytes ≡ onto x (each_in at_front rest)
    row_first [] x rest e = let less = advances.shorter [] x rest e in absurd (omega arith)
    row_first (b ∷ bytes) x rest e = row_step b bytes ∙ ap (λ (f : Option (A × List ℕ)). row_from f (each_in at_front)) e

    pub row_nowhere : (b : ℕ) (bytes : List ℕ) → at_front (b ∷ bytes) ≡ None → each_in at_front (b ∷ bytes) ≡ None
    row_nowhere b bytes e = row_step b bytes ∙ ap (λ (f : Option (A × List ℕ)). row_from f (each_in at_front)) e

    pub goes_on : (all : List ℕ) (found : List A) (rest : List ℕ) (x : A) (following : List ℕ) → Comes all found rest → at_front rest ≡ Some (x, following) → Comes all (found ++ x ∷ []) following
    goes_on all found rest x following comes e =
        record { by = comes.by ∙ ap (before found) (row_first rest x following e) ∙ before-onto found x (each_in at_front following) }

    pub next_seen : {X : Type 0} (seen : X → A) (all : List ℕ) (xs ys : List X) (rest : List ℕ) (x : X) (following : List ℕ) → Comes all (map seen xs) rest → at_front rest ≡ Some (seen x, following)
        → ys ≡ xs ++ x ∷ [] → Comes all (map seen ys) following
    next_seen seen all xs ys rest x following comes e grown =
        subst (λ (found : List A). Comes all found following) (sym (ap (map seen) grown ∙ map-append seen xs (x ∷ []))) (goes_on all (map seen xs) rest (seen x) following comes e)

    pub fails : (all : List ℕ) (found : List A) (rest : List ℕ) → Comes all found rest → at_front rest ≡ None → 0 < length rest → each_in at_front all ≡ None
    fails all found [] comes e some = absurd (omega arith)
    fails all found (b ∷ rest) comes e some = comes.by ∙ ap (before found) (row_nowhere b rest e)

-- an item that is found at the front is encoded there and passes the test; and one that passes it and is encoded there, with a
-- length that is a number of 32 bits, is found
pub record IsSpelledBy {A : Type 0} (at_front : List ℕ → Option (A × List ℕ)) (spell : A → List ℕ) (test : A → Bool) : Type 0 where
  pub spelled : (bytes : List ℕ) (x : A) (rest : List ℕ) → IsBytes bytes → at_front bytes ≡ Some (x, rest) → (bytes ≡ spell x ++ rest) × (test x ≡ true)
  pub found : (x : A) (rest : List ℕ) → test x ≡ true → length (spell x) < 2 ^ 32 → at_front (spell x ++ rest) ≡ Some (x, rest)

pub onto_some : {A : Type 0} (x : A) (o : Option (List A)) (xs : List A) → onto x o ≡ Some xs → (ys : List A) × (o ≡ Some ys) × (x ∷ ys ≡ xs)
onto_some x None xs e = absurd cc
onto_some x (Some ys) xs e = (ys, refl, cc)

module _ {A : Type 0} (at_front : List ℕ → Option (A × List ℕ)) (spell : A → List ℕ) (test : A → Bool) (advances : Advances at_front) (is : IsSpelledBy at_front spell test) where
  abbrev AreSpelled : List ℕ → List A → Type 0
  AreSpelled bytes xs = (bytes ≡ flat_map spell xs) × (list_all test xs ≡ true)

  spelled_within : (steps : ℕ) (bytes : List ℕ) (xs : List A) (front : Option (A × List ℕ)) → length bytes ≤ steps → IsBytes bytes → at_front bytes ≡ front → each_in at_front bytes ≡ Some xs → AreSpelled bytes xs
  spelled_within steps [] xs front le h is_front e =
      let none : [] ≡ xs = (let found = sym (row_nothing at_front) ∙ e in cc) in
      subst (AreSpelled []) none (refl, refl)
  spelled_within zero (b ∷ bytes) xs front le h is_front e = absurd (omega arith)
  spelled_within (suc steps) (b ∷ bytes) xs None le h is_front e =
      let none : None ≡ Some xs = sym (row_nowhere at_front advances b bytes is_front) ∙ e in absurd cc
  spelled_within (suc steps) (b ∷ bytes) xs (Some (x, rest)) le h is_front e =
      let one = is.spelled (b ∷ bytes) x rest h is_front in
      let less = advances.shorter (b ∷ bytes) x rest is_front in
      let (ys, behind, same) = onto_some x (each_in at_front rest) xs (sym (row_first at_front advances (b ∷ bytes) x rest is_front) ∙ e) in
      let others = spelled_within steps rest ys (at_front rest) (omega arith) (IsBytes-behind (spell x) rest (subst IsBytes one.0 h)) refl behind in
      subst (AreSpelled (b ∷ bytes)) same (one.0 ∙ ap (λ (r : List ℕ). spell x ++ r) others.0, rw (one.1, others.1) refl)

  pub row_spelled : (bytes : List ℕ) (xs : List A) → IsBytes bytes → each_in at_front bytes ≡ Some xs → AreSpelled bytes xs
  row_spelled bytes xs h e = spelled_within (length bytes) bytes xs (at_front bytes) (omega arith) h refl e

  pub row_found : (xs : List A) → list_all test xs ≡ true → length (flat_map spell xs) < 2 ^ 32 → each_in at_front (flat_map spell xs) ≡ Some xs
  row_found [] all fits = row_nothing at_front
  row_found (x ∷ xs) all fits =
      let parts = and_parts (test x) (list_all test xs) all in
      let long = length-append (spell x) (flat_map spell xs) in
      row_first at_front advances (spell x ++ flat_map spell xs) x (flat_map spell xs) (is.found x (flat_map spell xs) parts.0 (omega arith))
      ∙ ap (onto x) (row_found xs parts.1 (omega arith))
