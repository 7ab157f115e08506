-- What is left of documents inside a row, level by level.
use Rattle.std.proofs.Common.{◌≡◌, ◌∙◌, ap, ap₂, sym, refl, ℕ, Bool, true, false, not, ◌||◌, List, [], ◌∷◌, ◌++◌, map, Some, if◌then◌else◌}
use Rattle.std.specs.List.{list_any}
use Rattle.std.specs.Str.{bytes_eq}
use Rattle.std.proofs.lemmas.Bool.{or_parts}
use Rattle.std.proofs.lemmas.Slice.Eq.{bytes_eq-Decides}
use Rattle.dv_value.specs.Names.{has_name}
use Rattle.dv_value.specs.Tree.{Tree, document, Field, fields_of}
use Rattle.dv_value.specs.Inner.TreeLaws.{fields_back}
use Rattle.dv_value.specs.Inner.ByteLaws.{bytes_eq-symmetric}
use Rattle.dv_row.specs.declared.project.Project.TheVariants.{Include, Exclude}
use Rattle.dv_row.specs.Expressions.{nothing, with_computed}
use Rattle.dv_row.specs.Projecting.{paths_behind, if_it, left_of_value, left_inside, fields_left, row_left, projected}
use Rattle.dv_row.specs.Row.{Row}
use Rattle.dv_row.specs.Inner.Shown.{Level, Paths, AreNamesApart, bare_level, begins_with_name, is_alone, is_met, way_through, within}
use Rattle.dv_row.proofs.Left.{row-left_append}
use Rattle.dv_row.proofs.ShownFields.{in_front, left-cons, left-none, left-of, not-led}

-- ---- one field

-- a document that paths lead into
left-document : (keeps : Bool) (paths : Paths) (name : List ℕ) (d : Row) → list_any (is_alone name) paths ≡ false → list_any (begins_with_name name) paths ≡ true
    → left_of_value keeps (paths_behind name paths) (document (fields_of d)) ≡ Some (document (fields_of (row_left keeps (paths_behind name paths) d)))
unfolding left_inside
left-document keeps paths name d none led =
    let v : Tree = document (fields_of d) in
    left-of keeps paths (name, v)
    ∙ ap (λ b. if b then if_it keeps v else if list_any (begins_with_name name) paths then left_inside keeps (paths_behind name paths) v else if_it (not keeps) v) none
    ∙ ap (λ b. if b then left_inside keeps (paths_behind name paths) v else if_it (not keeps) v) led
    ∙ ap (λ fs. Some (document fs)) (sym (fields_back (fields_left keeps (paths_behind name paths) (fields_of d))))

inside : (keeps : Bool) (paths : Paths) (name : List ℕ) (d fs : Row) → list_any (is_alone name) paths ≡ false → list_any (begins_with_name name) paths ≡ true
    → row_left keeps paths ((name, document (fields_of d)) ∷ fs) ≡ (name, document (fields_of (row_left keeps (paths_behind name paths) d))) ∷ row_left keeps paths fs
inside keeps paths name d fs none led =
    left-cons keeps paths (name, document (fields_of d)) fs ∙ ap (λ c. in_front name c (row_left keeps paths fs)) (left-document keeps paths name d none led)

module _ (paths : Paths) where
  pub included_apart : (front back : Row) → projected (Include paths nothing) (front ++ back) ≡ projected (Include paths nothing) front ++ projected (Include paths nothing) back
  unfolding projected with_computed
  included_apart front back = row-left_append true paths front back

  pub excluded_apart : (front back : Row) → projected (Exclude paths) (front ++ back) ≡ projected (Exclude paths) front ++ projected (Exclude paths) back
  unfolding projected
  excluded_apart front back = row-left_append false paths front back

  pub included_inside : (name : List ℕ) (d : Row) → list_any (is_alone name) paths ≡ false → list_any (begins_with_name name) paths ≡ true
      → projected (Include paths nothing) ((name, document (fields_of d)) ∷ []) ≡ (name, document (fields_of (projected (Include (paths_behind name paths) nothing) d))) ∷ []
  unfolding projected with_computed
  included_inside name d none led = inside true paths name d [] none led ∙ ap (λ fs. (name, document (fields_of (row_left true (paths_behind name paths) d))) ∷ fs) (left-none true paths)

  pub excluded_inside : (name : List ℕ) (d : Row) → list_any (is_alone name) paths ≡ false → list_any (begins_with_name name) paths ≡ true
      → projected (Exclude paths) ((name, document (fields_of d)) ∷ []) ≡ (name, document (fields_of (projected (Exclude (paths_behind name paths)) d))) ∷ []
  unfolding projected
  excluded_inside name d none led = inside false paths name d [] none led ∙ ap (λ fs. (name, document (fields_of (row_left false (paths_behind name paths) d))) ∷ fs) (left-none false paths)

  pub excluded_stays : (front back : Row) (f : Field) → is_met paths f ≡ false → projected (Exclude paths) (front ++ f ∷ back) ≡ projected (Exclude paths) front ++ f ∷ projected (Exclude paths) back
  unfolding projected
  excluded_stays front back f h =
      row-left_append false paths front (f ∷ back)
      ∙ ap (λ fs. row_left false paths front ++ fs) (left-cons false paths f back ∙ ap (λ c. in_front f.0 c (row_left false paths back)) (not-led false paths f h))

-- ---- level by level

-- fields of other names: removed, or as they are
abbrev others : Bool → Row → Row
others keeps d = if keeps then [] else d

others-left : (keeps : Bool) (name : List ℕ) (way : List (List ℕ)) (d : Row) → has_name name d ≡ false → row_left keeps ((name ∷ way) ∷ []) d ≡ others keeps d
others-left true name way [] h = left-none true ((name ∷ way) ∷ [])
others-left false name way [] h = left-none false ((name ∷ way) ∷ [])
others-left keeps name way (f ∷ d) h =
    let parts = or_parts (bytes_eq name f.0) (has_name name d) h in
    left-cons keeps ((name ∷ way) ∷ []) f d
    ∙ ap (λ c. in_front f.0 c (row_left keeps ((name ∷ way) ∷ []) d)) (not-led keeps ((name ∷ way) ∷ []) f (ap (λ b. b || false) (bytes_eq-symmetric f.0 name ∙ parts.0)))
    ∙ go keeps (row_left keeps ((name ∷ way) ∷ []) d) (others-left keeps name way d parts.1)
  where
    go : (keeps : Bool) (rest : Row) → rest ≡ others keeps d → in_front f.0 (if_it (not keeps) f.1) rest ≡ others keeps (f ∷ d)
    go true rest e = e
    go false rest e = ap (λ fs. f ∷ fs) e

-- what is left of a level if a path leads further
abbrev level_left : Bool → Level → Level
level_left keeps l = record { front = others keeps l.front; name = l.name; back = others keeps l.back }

leads-on : (ls : List Level) (name n : List ℕ) (rest : List (List ℕ)) → is_alone name (name ∷ (way_through ls ++ n ∷ rest)) ≡ false
leads-on [] name n rest = refl
leads-on (l ∷ ls) name n rest = refl

one-level : (keeps : Bool) (l : Level) (way : List (List ℕ)) (d : Row) → is_alone l.name (l.name ∷ way) ≡ false → has_name l.name l.front ≡ false → has_name l.name l.back ≡ false
    → row_left keeps ((l.name ∷ way) ∷ []) (within (l ∷ []) d) ≡ within (level_left keeps l ∷ []) (row_left keeps (way ∷ []) d)
one-level keeps l way d on in_front behind_it =
    let paths : Paths = (l.name ∷ way) ∷ [] in
    let same : bytes_eq l.name l.name ≡ true = (bytes_eq-Decides l.name l.name).1 refl in
    row-left_append keeps paths l.front ((l.name, document (fields_of d)) ∷ l.back)
    ∙ ap₂ (λ (xs ys : Row). xs ++ ys) (others-left keeps l.name way l.front in_front)
    (inside keeps paths l.name d l.back (ap (λ b. b || false) on) (ap (λ b. b || false) same)
    ∙ ap₂ (λ (ps : Paths) (fs : Row). (l.name, document (fields_of (row_left keeps ps d))) ∷ fs) (ap (λ b. if b then way ∷ [] else []) same) (others-left keeps l.name way l.back behind_it))

all-levels : (keeps : Bool) (ls : List Level) (n : List ℕ) (rest : List (List ℕ)) (d : Row) → AreNamesApart ls
    → row_left keeps ((way_through ls ++ n ∷ rest) ∷ []) (within ls d) ≡ within (map (level_left keeps) ls) (row_left keeps ((n ∷ rest) ∷ []) d)
all-levels keeps [] n rest d apart = refl
all-levels keeps (l ∷ ls) n rest d apart =
    one-level keeps l (way_through ls ++ n ∷ rest) (within ls d) (leads-on ls l.name n rest) apart.0.0 apart.0.1
    ∙ ap (λ e. within (level_left keeps l ∷ []) e) (all-levels keeps ls n rest d apart.1)

levels-stay : (ls : List Level) → map (level_left false) ls ≡ ls
levels-stay [] = refl
levels-stay (l ∷ ls) = ap (λ ks. l ∷ ks) (levels-stay ls)

pub included_deep : (ls : List Level) (n : List ℕ) (rest : List (List ℕ)) (d : Row) → AreNamesApart ls
    → projected (Include ((way_through ls ++ n ∷ rest) ∷ []) nothing) (within ls d) ≡ within (map bare_level ls) (projected (Include ((n ∷ rest) ∷ []) nothing) d)
unfolding projected with_computed
included_deep ls n rest d apart = all-levels true ls n rest d apart

pub excluded_deep : (ls : List Level) (n : List ℕ) (rest : List (List ℕ)) (d : Row) → AreNamesApart ls
    → projected (Exclude ((way_through ls ++ n ∷ rest) ∷ [])) (within ls d) ≡ within ls (projected (Exclude ((n ∷ rest) ∷ [])) d)
unfolding projected
excluded_deep ls n rest d apart = all-levels false ls n rest d apart ∙ ap (λ ks. within ks (row_left false ((n ∷ rest) ∷ []) d)) (levels-stay ls)
