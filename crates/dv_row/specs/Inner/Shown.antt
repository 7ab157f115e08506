-- What a $project shows of a row, field by field at the top level, and level by level.
use Rattle.std.specs.Prelude.{◌≡◌, ℕ, Bool, true, false, List, [], ◌∷◌, ◌++◌, codes, filter, map}
use Rattle.std.specs.List.{AllByRecursion, list_any, filter_map}
use Rattle.std.specs.Option.{option_map}
use Rattle.std.specs.Str.{bytes_eq}
use Rattle.dv_value.specs.Names.{has_name}
use Rattle.dv_value.specs.Tree.{Tree, document, array, Field, fields_of}
use Rattle.dv_row.specs.declared.project.Project.TheVariants.{Exclude, Include}
use Rattle.dv_row.specs.Expressions.{Expression, nothing, value_of}
use Rattle.dv_row.specs.Projecting.{paths_behind, projected}
use Rattle.dv_row.specs.Row.{Row}

abbrev pub Paths : Type 0
Paths = List (List (List ℕ))

-- what a $project that includes these paths returns for a row
abbrev pub included : Paths → Row → Row
included paths row = projected (Include paths nothing) row

-- what a $project that excludes these paths returns for a row
abbrev pub excluded : Paths → Row → Row
excluded paths row = projected (Exclude paths) row

-- a document under a name
abbrev pub document_under : List ℕ → Row → Field
document_under name d = (name, document (fields_of d))

-- a document under a name is shown as a row by itself is, with what follows the name in the paths
abbrev pub IsShownInside : (Paths → Row → Row) → Paths → List ℕ → Row → Type 0
IsShownInside show paths name d = show paths (document_under name d ∷ []) ≡ document_under name (show (paths_behind name paths) d) ∷ []

-- whether a path is a name alone
abbrev pub is_alone : List ℕ → List (List ℕ) → Bool
is_alone name [] = false
is_alone name (n ∷ []) = bytes_eq name n
is_alone name (n ∷ m ∷ ns) = false

-- whether a path begins with a name
abbrev pub begins_with_name : List ℕ → List (List ℕ) → Bool
begins_with_name name [] = false
begins_with_name name (n ∷ ns) = bytes_eq name n

-- whether one of the paths is the name alone
abbrev pub ends_at : Paths → List ℕ → Bool
ends_at paths name = list_any (is_alone name) paths

-- whether one of them begins with the name
abbrev pub begins_at : Paths → List ℕ → Bool
begins_at paths name = list_any (begins_with_name name) paths

-- whether one of the paths is the field's name
abbrev pub is_named : Paths → Field → Bool
is_named paths f = ends_at paths f.0

-- whether one of the paths is the field's name, or leads through it
abbrev pub is_met : Paths → Field → Bool
is_met paths f = begins_at paths f.0

-- whether a value holds others
abbrev pub has_parts : Tree → Bool
has_parts (document fs) = true
has_parts (array vs) = true
has_parts v = false

abbrev pub names : List Field → List (List ℕ)
names fs = map (λ f. f.0) fs

-- the fields that are called `_id`
abbrev pub ids_in : List Field → List Field
ids_in fs = filter (λ f. bytes_eq f.0 (codes "_id")) fs

-- a field for each expression that has a value
abbrev pub computed_fields : List (List ℕ × Expression) → Row → List Field
computed_fields es d = filter_map (λ e. option_map (λ v. (e.0, v)) (value_of e.1 d)) es

-- no path begins with the name of a computed field
abbrev pub AreUnmet : Paths → List (List ℕ × Expression) → Type 0
AreUnmet paths es = AllByRecursion (λ e. begins_at paths e.0 ≡ false) es

-- ---- documents inside others

-- what is around a document inside another one: its name, and the fields before it and after it
pub record Level : Type 0 where
  pub front : Row
  pub name : List ℕ
  pub back : Row

-- a document at such levels, the outermost first
abbrev pub within : List Level → Row → Row
within [] d = d
within (l ∷ ls) d = l.front ++ (l.name, document (fields_of (within ls d))) ∷ l.back

-- the names that lead to a document at such levels
abbrev pub way_through : List Level → List (List ℕ)
way_through ls = map (λ l. l.name) ls

-- a path that leads through levels to a name, and on from there
abbrev pub way_to : List Level → List ℕ → List (List ℕ) → List (List ℕ)
way_to levels name rest = way_through levels ++ name ∷ rest

-- a level without its other fields
abbrev pub bare_level : Level → Level
bare_level l = record { front = []; name = l.name; back = [] }

abbrev pub bare_levels : List Level → List Level
bare_levels levels = map bare_level levels

-- if a path leads through levels to a name and on, the document inside them is shown as a row by itself is, with the rest of the
-- path; around it these levels are left
abbrev pub IsShownWithin : (Paths → Row → Row) → List Level → List Level → List ℕ → List (List ℕ) → Row → Type 0
IsShownWithin show levels left name rest d = show (way_to levels name rest ∷ []) (within levels d) ≡ within left (show ((name ∷ rest) ∷ []) d)

-- at each level no other field has the document's name
abbrev pub AreNamesApart : List Level → Type 0
AreNamesApart ls = AllByRecursion (λ l. (has_name l.name l.front ≡ false) × (has_name l.name l.back ≡ false)) ls
