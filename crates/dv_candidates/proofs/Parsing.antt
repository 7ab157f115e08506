-- Reading a path, name by name.
use Rattle.std.proofs.Common.{◌≡◌, ℕ, ◌==◌, ◌&&◌, Bool, true, false, List, [], ◌∷◌, ◌++◌, length, Option, Some, None, refl, ap, sym, ◌∙◌, arith, append_assoc, append-nil}
use Rattle.std.specs.Iterator.{AlwaysYields}
use Rattle.std.specs.List.{list_all, list_any, slice_split}
use Rattle.std.proofs.lemmas.Bool.{or_parts}
use Rattle.std.proofs.lemmas.Iterator.{YieldsList}
use Rattle.std.proofs.lemmas.List.Splits.{length-slice_split}
use Rattle.dv_candidates.specs.Path.{is_component, path_of}

-- what an iterator gives next, and that it has given all
module _ {S A B : Type 0} (steps : S → Option A → S → Type 0) (v : A → B) where
  next : (s t : S) (x : A) (ys : List B) → AlwaysYields steps v s ys → steps s (Some x) t → (rest : List B) × (ys ≡ v x ∷ rest) × AlwaysYields steps v t rest
  next s t x [] h k = absurd (h x t k)
  next s t x (y ∷ ys) h k = let it = h.1 x t k in (ys, ap (λ z. z ∷ ys) (sym it.0), it.1)

  pub YieldsList-next : (s t : S) (ys : List B) (x : A) → YieldsList steps v s ys → steps s (Some x) t → (rest : List B) × (ys ≡ v x ∷ rest) × YieldsList steps v t rest
  YieldsList-next s t ys x h k = let it = next s t x ys h.runs k in (it.0, it.1, record { runs = it.2 })

  last : (s t : S) (ys : List B) → AlwaysYields steps v s ys → steps s None t → ys ≡ []
  last s t [] h k = refl
  last s t (y ∷ ys) h k = absurd (h.0 t k)

  pub YieldsList-last : (s t : S) (ys : List B) → YieldsList steps v s ys → steps s None t → ys ≡ []
  YieldsList-last s t ys h k = last s t ys h.runs k

-- the names so far, and those that are left
pub record IsRead (text : List ℕ) (names rest : List (List ℕ)) : Type 0 where
  pub all : slice_split (λ b. b == 46) text ≡ names ++ rest
  pub named : list_all is_component names ≡ true

pub IsRead-none : (text : List ℕ) → IsRead text [] (slice_split (λ b. b == 46) text)
IsRead-none text = record { all = refl; named = refl }

all-append : (xs ys : List (List ℕ)) → list_all is_component (xs ++ ys) ≡ (list_all is_component xs && list_all is_component ys)
all-append [] ys = refl
all-append (x ∷ xs) ys = ap (λ b. is_component x && b) (all-append xs ys) ∙ sym (and_assoc (is_component x) (list_all is_component xs) (list_all is_component ys))
  where
    and_assoc : (a b c : Bool) → ((a && b) && c) ≡ (a && (b && c))
    and_assoc true b c = refl
    and_assoc false b c = refl

pub IsRead-more : {text : List ℕ} {names rest left : List (List ℕ)} (name : List ℕ) → IsRead text names rest → rest ≡ name ∷ left → is_component name ≡ true → IsRead text (names ++ name ∷ []) left
IsRead-more {text} {names} {rest} {left} name r e h = record {
  all = r.all ∙ ap (λ ns. names ++ ns) e ∙ sym (append_assoc names (name ∷ []) left);
  named = all-append names (name ∷ []) ∙ (rw (r.named, h) refl);
}

pub path_of-refused : {text : List ℕ} {names rest left : List (List ℕ)} (name : List ℕ) → IsRead text names rest → rest ≡ name ∷ left → is_component name ≡ false → path_of text ≡ None
unfolding path_of
path_of-refused {text} {names} {rest} {left} name r e h =
    let split : slice_split (λ b. b == 46) text ≡ names ++ (name ∷ left) = r.all ∙ ap (λ ns. names ++ ns) e in
    let bad : list_all is_component (slice_split (λ b. b == 46) text) ≡ false = ap (list_all is_component) split ∙ all-append names (name ∷ left) ∙ (rw (r.named, h) refl) in
    rw bad refl

pub path_of-read : {text : List ℕ} {names rest : List (List ℕ)} → IsRead text names rest → rest ≡ [] → path_of text ≡ Some names
unfolding path_of
path_of-read {text} {names} {rest} r e =
    let split : slice_split (λ b. b == 46) text ≡ names = r.all ∙ ap (λ ns. names ++ ns) e ∙ append-nil names in
    rw (split, r.named) refl

pub some-read : {text : List ℕ} {names rest : List (List ℕ)} → IsRead text names rest → rest ≡ [] → names ≡ [] → ⊥
some-read {text} {names} {rest} r e none =
    let split : slice_split (λ b. b == 46) text ≡ [] = r.all ∙ ap (λ ns. names ++ ns) e ∙ append-nil names ∙ none in
    let long : length (slice_split (λ b. b == 46) text) ≡ 0 = ap length split in
    omega (arith, long, length-slice_split (λ b. b == 46) text)

-- a text without a dot is cut nowhere
uncut : (text : List ℕ) → list_any (λ b. b == 46) text ≡ false → slice_split (λ b. b == 46) text ≡ text ∷ []
uncut [] none = refl
uncut (b ∷ bs) none =
    let parts : ((b == 46) ≡ false) × (list_any (λ b. b == 46) bs ≡ false) = or_parts (b == 46) (list_any (λ b. b == 46) bs) none in
    rw (parts.0, uncut bs parts.1) refl

pub undotted : (text : List ℕ) → list_any (λ b. b == 46) text ≡ false → is_component text ≡ true → path_of text ≡ Some (text ∷ [])
unfolding path_of
undotted text none named = rw (uncut text none, named) refl

pub undotted_refused : (text : List ℕ) → list_any (λ b. b == 46) text ≡ false → is_component text ≡ false → path_of text ≡ None
unfolding path_of
undotted_refused text none named = rw (uncut text none, named) refl
