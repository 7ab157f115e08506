-- Computed fields come after what is left of a row.
use Rattle.std.proofs.Common.{◌≡◌, ◌∙◌, ap, sym, refl, ℕ, Bool, true, false, ◌||◌, List, [], ◌∷◌, ◌++◌, map, append_assoc, append-nil, Some, None, if◌then◌else◌}
use Rattle.std.specs.List.{list_any, AllByRecursion, cons_option}
use Rattle.std.specs.Option.{option_map}
use Rattle.std.specs.Str.{bytes_eq}
use Rattle.std.proofs.lemmas.Slice.Eq.{bytes_eq-Decides}
use Rattle.std.proofs.lemmas.Bool.{or_parts}
use Rattle.dv_value.specs.Tree.{Tree, Field}
use Rattle.dv_value.specs.Names.{has_name, bare, AreNamed}
use Rattle.dv_value.specs.Inner.ByteLaws.{bytes_eq-symmetric}
use Rattle.dv_candidates.specs.Candidates.{Candidate}
use Rattle.dv_row.specs.declared.project.Project.TheVariants.{Include}
use Rattle.dv_row.specs.Expressions.{Expression, nothing, computed_of, with_field_behind, value_of, with_computed}
use Rattle.dv_row.specs.Projecting.{paths_behind, left_of_value, row_left, projected}
use Rattle.dv_row.specs.Row.{Row}
use Rattle.dv_row.specs.Inner.Shown.{Paths, begins_with_name, computed_fields}
use Rattle.dv_row.proofs.ShownFields.{in_front, left-none, left-cons, not-led}

unled : (n : List ℕ) (paths : Paths) → list_any (begins_with_name n) paths ≡ false → (d : Row) → has_name n (row_left true paths d) ≡ false
unled n paths h [] = ap (has_name n) (left-none true paths)
unled n paths h (f ∷ d) = ap (has_name n) (left-cons true paths f d) ∙ go (bytes_eq n f.0) refl (unled n paths h d)
  where
    among : (c : Candidate) → bytes_eq n f.0 ≡ false → has_name n (row_left true paths d) ≡ false → has_name n (in_front f.0 c (row_left true paths d)) ≡ false
    among None e rest = rest
    among (Some v) e rest = ap (λ b. b || has_name n (row_left true paths d)) e ∙ rest

    go : (b : Bool) → bytes_eq n f.0 ≡ b → has_name n (row_left true paths d) ≡ false → has_name n (in_front f.0 (left_of_value true (paths_behind f.0 paths) f.1) (row_left true paths d)) ≡ false
    go true e rest = ap (λ c. has_name n (in_front f.0 c (row_left true paths d))) (not-led true paths f (ap (λ m. list_any (begins_with_name m) paths) (sym ((bytes_eq-Decides n f.0).0 e)) ∙ h)) ∙ rest
    go false e rest = among (left_of_value true (paths_behind f.0 paths) f.1) e rest

abbrev Asks : Type 0
Asks = List (List ℕ × Expression)

-- names that no field has yet
abbrev AreNew : Asks → List Field → Type 0
AreNew es fs = AllByRecursion (λ e. has_name e.0 fs ≡ false) es

named-behind : (m n : List ℕ) (v : Tree) (fs : List Field) → has_name m fs ≡ false → bytes_eq n m ≡ false → has_name m (fs ++ (n, v) ∷ []) ≡ false
named-behind m n v [] none apart = ap (λ b. b || false) (bytes_eq-symmetric m n ∙ apart)
named-behind m n v (f ∷ fs) none apart = ap (λ b. b || has_name m (fs ++ (n, v) ∷ [])) (or_parts (bytes_eq m f.0) (has_name m fs) none).0 ∙ named-behind m n v fs (or_parts (bytes_eq m f.0) (has_name m fs) none).1 apart

still-new : (n : List ℕ) (v : Tree) (es : Asks) (fs : List Field) → has_name n (map (λ e. bare e.0) es) ≡ false → AreNew es fs → AreNew es (fs ++ (n, v) ∷ [])
still-new n v [] fs apart new = tt
still-new n v (e ∷ es) fs apart new =
    (named-behind e.0 n v fs new.0 (or_parts (bytes_eq n e.0) (has_name n (map (λ e. bare e.0) es)) apart).0, still-new n v es fs (or_parts (bytes_eq n e.0) (has_name n (map (λ e. bare e.0) es)) apart).1 new.1)

computed-last : (es : Asks) (d : Row) (fs : List Field) → AreNamed (map (λ e. bare e.0) es) → AreNew es fs → with_computed (computed_of es) d fs ≡ fs ++ computed_fields es d
unfolding with_computed
computed-last [] d fs named new = sym (append-nil fs)
computed-last (e ∷ es) d fs named new = go (value_of e.1 d) (computed-last es d)
  where
    more : Candidate → List Field
    more c = cons_option (option_map (λ v. (e.0, v)) c) (computed_fields es d)

    go : (c : Candidate) → ((fs : List Field) → AreNamed (map (λ e. bare e.0) es) → AreNew es fs → with_computed (computed_of es) d fs ≡ fs ++ computed_fields es d)
        → with_computed (computed_of es) d (with_field_behind e.0 c fs) ≡ fs ++ more c
    go None rest = rest fs named.2 new.1
    go (Some v) rest =
        ap (λ b. with_computed (computed_of es) d (if b then fs else fs ++ (e.0, v) ∷ [])) (ap (λ b. b || has_name e.0 fs) named.0 ∙ new.0)
        ∙ rest (fs ++ (e.0, v) ∷ []) named.2 (still-new e.0 v es fs named.1 new.1)
        ∙ append_assoc fs ((e.0, v) ∷ []) (computed_fields es d)

all-unled : (paths : Paths) (d : Row) (es : Asks) → AllByRecursion (λ e. list_any (begins_with_name e.0) paths ≡ false) es → AreNew es (row_left true paths d)
all-unled paths d [] all = tt
all-unled paths d (e ∷ es) all = (unled e.0 paths all.0 d, all-unled paths d es all.1)

pub computed_stand_last : (paths : Paths) (es : Asks) (row : Row) → AreNamed (map (λ e. bare e.0) es) → AllByRecursion (λ e. list_any (begins_with_name e.0) paths ≡ false) es
    → projected (Include paths (computed_of es)) row ≡ projected (Include paths nothing) row ++ computed_fields es row
unfolding projected with_computed
computed_stand_last paths es row named apart = computed-last es row (row_left true paths row) named (all-unled paths row es apart)
