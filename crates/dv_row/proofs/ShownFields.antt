-- What is left of a row, field by field.
use Rattle.std.proofs.Common.{◌≡◌, ◌∙◌, ap, refl, ℕ, Bool, true, false, not, ◌||◌, ◌&&◌, List, [], ◌∷◌, filter, Some, None, if◌then◌else◌}
use Rattle.std.specs.List.{list_any}
use Rattle.std.specs.Option.{is_some}
use Rattle.std.specs.Str.{bytes_eq}
use Rattle.dv_value.specs.Tree.{Tree, document, array, Fields, Field, fields_of, list_of_fields}
use Rattle.dv_candidates.specs.Candidates.{Candidate}
use Rattle.dv_row.specs.declared.project.Project.TheVariants.{Include, Exclude}
use Rattle.dv_row.specs.Expressions.{nothing, with_computed}
use Rattle.dv_row.specs.Projecting.{paths_behind, ends, if_it, with_left, left_at, left_inside, fields_left, left_of_value, row_left, projected}
use Rattle.dv_row.specs.Row.{Row}
use Rattle.dv_row.specs.Inner.Shown.{Paths, is_alone, begins_with_name, is_named, is_met, has_parts, names}

abbrev pub in_front : List ℕ → Candidate → List Field → List Field
in_front name None fs = fs
in_front name (Some v) fs = (name, v) ∷ fs

-- ---- what is left of one field

abbrev pub is_led : Paths → Bool
is_led [] = false
is_led (path ∷ paths) = true

ends-are : (name : List ℕ) (paths : Paths) → list_any ends (paths_behind name paths) ≡ list_any (is_alone name) paths
ends-are name [] = refl
ends-are name ([] ∷ paths) = ends-are name paths
ends-are name ((n ∷ []) ∷ paths) = go (bytes_eq name n) (ends-are name paths)
  where
    go : (b : Bool) → list_any ends (paths_behind name paths) ≡ list_any (is_alone name) paths → list_any ends (if b then [] ∷ paths_behind name paths else paths_behind name paths) ≡ b || list_any (is_alone name) paths
    go true rest = refl
    go false rest = rest
ends-are name ((n ∷ m ∷ ns) ∷ paths) = go (bytes_eq name n) (ends-are name paths)
  where
    go : (b : Bool) → list_any ends (paths_behind name paths) ≡ list_any (is_alone name) paths → list_any ends (if b then (m ∷ ns) ∷ paths_behind name paths else paths_behind name paths) ≡ list_any (is_alone name) paths
    go true rest = rest
    go false rest = rest

pub led-are : (name : List ℕ) (paths : Paths) → is_led (paths_behind name paths) ≡ list_any (begins_with_name name) paths
led-are name [] = refl
led-are name ([] ∷ paths) = led-are name paths
led-are name ((n ∷ ns) ∷ paths) = go (bytes_eq name n) (led-are name paths)
  where
    go : (b : Bool) → is_led (paths_behind name paths) ≡ list_any (begins_with_name name) paths → is_led (if b then ns ∷ paths_behind name paths else paths_behind name paths) ≡ b || list_any (begins_with_name name) paths
    go true rest = refl
    go false rest = rest

pub chosen : (keeps : Bool) (ps : Paths) (v : Tree) (inside : Candidate) → left_at keeps ps v inside ≡ (if list_any ends ps then if_it keeps v else if is_led ps then inside else if_it (not keeps) v)
chosen keeps [] v inside = refl
chosen keeps (path ∷ paths) v inside = refl

pub left-of : (keeps : Bool) (paths : Paths) (f : Field) → left_of_value keeps (paths_behind f.0 paths) f.1 ≡ (if is_named paths f then if_it keeps f.1 else if is_met paths f then left_inside keeps (paths_behind f.0 paths) f.1 else if_it (not keeps) f.1)
left-of keeps paths f =
    chosen keeps (paths_behind f.0 paths) f.1 (left_inside keeps (paths_behind f.0 paths) f.1)
    ∙ ap (λ b. if b then if_it keeps f.1 else if is_led (paths_behind f.0 paths) then left_inside keeps (paths_behind f.0 paths) f.1 else if_it (not keeps) f.1) (ends-are f.0 paths)
    ∙ ap (λ b. if is_named paths f then if_it keeps f.1 else if b then left_inside keeps (paths_behind f.0 paths) f.1 else if_it (not keeps) f.1) (led-are f.0 paths)

-- a field that no path begins with
pub not-led : (keeps : Bool) (paths : Paths) (f : Field) → is_met paths f ≡ false → left_of_value keeps (paths_behind f.0 paths) f.1 ≡ if_it (not keeps) f.1
not-led keeps paths f h = chosen keeps (paths_behind f.0 paths) f.1 (left_inside keeps (paths_behind f.0 paths) f.1) ∙ go (paths_behind f.0 paths) (led-are f.0 paths)
  where
    go : (ps : Paths) → is_led ps ≡ is_met paths f → (if list_any ends ps then if_it keeps f.1 else if is_led ps then left_inside keeps (paths_behind f.0 paths) f.1 else if_it (not keeps) f.1) ≡ if_it (not keeps) f.1
    go [] is = refl
    go (p ∷ ps) is = absurd (let same : true ≡ false = is ∙ h in cc)

inside-stays : (keeps : Bool) (ps : Paths) (v : Tree) → is_some (left_inside keeps ps v) ≡ (not keeps || has_parts v)
unfolding left_inside
inside-stays true ps (document fs) = refl
inside-stays false ps (document fs) = refl
inside-stays true ps (array vs) = refl
inside-stays false ps (array vs) = refl
inside-stays true ps v = refl
inside-stays false ps v = refl

-- ---- what is left of all

pub left-none : (keeps : Bool) (paths : Paths) → row_left keeps paths [] ≡ []
unfolding fields_left
left-none keeps paths = refl

pub left-cons : (keeps : Bool) (paths : Paths) (f : Field) (d : Row) → row_left keeps paths (f ∷ d) ≡ in_front f.0 (left_of_value keeps (paths_behind f.0 paths) f.1) (row_left keeps paths d)
unfolding fields_left
left-cons keeps paths f d = go (left_of_value keeps (paths_behind f.0 paths) f.1) (fields_left keeps paths (fields_of d))
  where
    go : (c : Candidate) (fs : Fields) → list_of_fields (with_left f.0 c fs) ≡ in_front f.0 c (list_of_fields fs)
    go None fs = refl
    go (Some v) fs = refl

-- fields that are as they were
abbrev Same : (Field → Bool) → Bool → Paths → Type 0
Same picked keeps paths = (d : Row) → filter picked (row_left keeps paths d) ≡ filter picked d

-- if a test depends on the name alone, and fields that pass it stay as they are
pub same-fields : (test : List ℕ → Bool) (keeps : Bool) (paths : Paths) → ((f : Field) → test f.0 ≡ true → left_of_value keeps (paths_behind f.0 paths) f.1 ≡ Some f.1) → Same (λ f. test f.0) keeps paths
same-fields test keeps paths stays [] = ap (filter (λ f. test f.0)) (left-none keeps paths)
same-fields test keeps paths stays (f ∷ d) = ap (filter (λ f. test f.0)) (left-cons keeps paths f d) ∙ go (test f.0) refl (same-fields test keeps paths stays d)
  where
    unseen : (c : Candidate) (fs : List Field) → test f.0 ≡ false → filter (λ f. test f.0) (in_front f.0 c fs) ≡ filter (λ f. test f.0) fs
    unseen None fs e = refl
    unseen (Some v) fs e = ap (λ b. if b then (f.0, v) ∷ filter (λ f. test f.0) fs else filter (λ f. test f.0) fs) e

    seen : (c : Candidate) (fs : List Field) → test f.0 ≡ true → c ≡ Some f.1 → filter (λ f. test f.0) (in_front f.0 c fs) ≡ f ∷ filter (λ f. test f.0) fs
    seen c fs e is = ap (λ c. filter (λ f. test f.0) (in_front f.0 c fs)) is ∙ ap (λ b. if b then f ∷ filter (λ f. test f.0) fs else filter (λ f. test f.0) fs) e

    go : (b : Bool) → test f.0 ≡ b → filter (λ f. test f.0) (row_left keeps paths d) ≡ filter (λ f. test f.0) d
        → filter (λ f. test f.0) (in_front f.0 (left_of_value keeps (paths_behind f.0 paths) f.1) (row_left keeps paths d)) ≡ (if b then f ∷ filter (λ f. test f.0) d else filter (λ f. test f.0) d)
    go true e rest = seen (left_of_value keeps (paths_behind f.0 paths) f.1) (row_left keeps paths d) e (stays f e) ∙ ap (λ l. f ∷ l) rest
    go false e rest = unseen (left_of_value keeps (paths_behind f.0 paths) f.1) (row_left keeps paths d) e ∙ rest

-- the names that are left are those of the fields that pass a test
left-names : (test : Field → Bool) (keeps : Bool) (paths : Paths) → ((f : Field) → is_some (left_of_value keeps (paths_behind f.0 paths) f.1) ≡ test f) → (d : Row) → names (row_left keeps paths d) ≡ names (filter test d)
left-names test keeps paths stays [] = ap names (left-none keeps paths)
left-names test keeps paths stays (f ∷ d) = ap names (left-cons keeps paths f d) ∙ go (left_of_value keeps (paths_behind f.0 paths) f.1) (test f) (stays f) (left-names test keeps paths stays d)
  where
    go : (c : Candidate) (b : Bool) → is_some c ≡ b → names (row_left keeps paths d) ≡ names (filter test d) → names (in_front f.0 c (row_left keeps paths d)) ≡ names (if b then f ∷ filter test d else filter test d)
    go None true is rest = absurd cc
    go None false is rest = rest
    go (Some v) true is rest = ap (λ l. f.0 ∷ l) rest
    go (Some v) false is rest = absurd cc

module _ (paths : Paths) where
  -- ---- paths that are shown

  included-stays : (f : Field) → is_some (left_of_value true (paths_behind f.0 paths) f.1) ≡ (is_named paths f || is_met paths f && has_parts f.1)
  included-stays f = ap is_some (left-of true paths f) ∙ go (is_named paths f) (is_met paths f)
    where
      go : (a b : Bool) → is_some (if a then Some f.1 else if b then left_inside true (paths_behind f.0 paths) f.1 else None) ≡ (a || b && has_parts f.1)
      go true b = refl
      go false true = inside-stays true (paths_behind f.0 paths) f.1
      go false false = refl

  pub included_names : (row : Row) → names (projected (Include paths nothing) row) ≡ names (filter (λ f. is_named paths f || is_met paths f && has_parts f.1) row)
  unfolding projected with_computed
  included_names row = left-names (λ f. is_named paths f || is_met paths f && has_parts f.1) true paths included-stays row

  pub named-stays : (f : Field) → is_named paths f ≡ true → left_of_value true (paths_behind f.0 paths) f.1 ≡ Some f.1
  named-stays f named = left-of true paths f ∙ ap (λ b. if b then Some f.1 else if is_met paths f then left_inside true (paths_behind f.0 paths) f.1 else None) named

  pub included_kept : (row : Row) → filter (is_named paths) (projected (Include paths nothing) row) ≡ filter (is_named paths) row
  unfolding projected with_computed
  included_kept row = same-fields (λ name. list_any (is_alone name) paths) true paths named-stays row

  -- ---- paths that are left out

  excluded-stays : (f : Field) → is_some (left_of_value false (paths_behind f.0 paths) f.1) ≡ not (is_named paths f)
  excluded-stays f = ap is_some (left-of false paths f) ∙ go (is_named paths f) (is_met paths f)
    where
      go : (a b : Bool) → is_some (if a then None else if b then left_inside false (paths_behind f.0 paths) f.1 else Some f.1) ≡ not a
      go true b = refl
      go false true = inside-stays false (paths_behind f.0 paths) f.1
      go false false = refl

  pub excluded_names : (row : Row) → names (projected (Exclude paths) row) ≡ names (filter (λ f. not (is_named paths f)) row)
  unfolding projected
  excluded_names row = left-names (λ f. not (is_named paths f)) false paths excluded-stays row

  unmet : (f : Field) → not (is_met paths f) ≡ true → left_of_value false (paths_behind f.0 paths) f.1 ≡ Some f.1
  unmet f h = not-led false paths f (turned (is_met paths f) h)
    where
      turned : (b : Bool) → not b ≡ true → b ≡ false
      turned true h = absurd cc
      turned false h = refl

  pub excluded_kept : (row : Row) → filter (λ f. not (is_met paths f)) (projected (Exclude paths) row) ≡ filter (λ f. not (is_met paths f)) row
  unfolding projected
  excluded_kept row = same-fields (λ name. not (list_any (begins_with_name name) paths)) false paths unmet row
