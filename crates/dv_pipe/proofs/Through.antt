-- Rows through stages.
use Rattle.std.proofs.Common.{◌≡◌, ◌∙◌, ap, sym, refl, List, [], ◌∷◌, ◌++◌, ℕ, zero, suc, take, filter, length, Bool, true, false, Option, Some, None, if◌then◌else◌, take-take, arith}
use Rattle.std.specs.List.{flat_map}
use Rattle.std.proofs.lemmas.List.Concat.{flat_map_single}
use Rattle.dv_match.specs.Filter.{Members}
use Rattle.dv_match.specs.Match.{matches}
use Rattle.dv_path.specs.SortSpec.{Part}
use Rattle.dv_sort.specs.Sorting.{stable, front}
use Rattle.dv_sort.specs.Front.{Front, no_rows, front_of}
use Rattle.dv_row.specs.Projecting.{projected}
use Rattle.dv_row.specs.Unwinding.{unwound}
use Rattle.dv_gather.specs.Grouping.{Grouping, grouped}
use Rattle.dv_gather.specs.declared.lookup.Lookup as lookups
use Rattle.dv_row.specs.declared.project.Project as projects
use Rattle.dv_row.specs.declared.unwind.Unwind as unwinds
use Rattle.dv_gather.specs.Lookups.{joined_row, looked_up}
use Rattle.dv_pipe.specs.declared.stage.Stage.{Stage}
use Rattle.dv_pipe.specs.declared.stage.Stage.TheVariants.{Match, Project, Unwind, Sort, Limit, Group, Lookup}
use Rattle.dv_pipe.specs.Inner.Parts.{wanted}
use Rattle.dv_pipe.specs.Sources.{Row}
use Rattle.dv_pipe.specs.Stages.{Lists, beside, foreign_of, stage, through}

-- stages see no more of the rows than are wanted
pub through_front : (later : List Stage) (source : List ℕ) (lists : Lists) (rows : List Row) → through later source lists (front (wanted later) rows) ≡ through later source lists rows
unfolding through stage
through_front [] source lists rows = refl
through_front (Limit n ∷ later) source lists rows = ap (through later source lists) (take-take n n rows (omega arith))
through_front (Match form ∷ later) source lists rows = refl
through_front (Project p ∷ later) source lists rows = refl
through_front (Unwind u ∷ later) source lists rows = refl
through_front (Sort parts ∷ later) source lists rows = refl
through_front (Group g ∷ later) source lists rows = refl
through_front (Lookup l ∷ later) source lists rows = refl

pub through_none : (stages : List Stage) (source : List ℕ) (lists : Lists) (rows : List Row) → length stages ≡ 0 → through stages source lists rows ≡ rows
unfolding through
through_none [] source lists rows e = refl
through_none (s ∷ ss) source lists rows e = absurd cc

-- a match returns for each row that matches the row alone
pub matched : (form : Members) (ds : List Row) → flat_map (λ d. if matches form d then d ∷ [] else []) ds ≡ filter (matches form) ds
matched form [] = refl
matched form (d ∷ ds) = go (matches form d) (matched form ds)
  where
    rest : List Row
    rest = flat_map (λ e. if matches form e then e ∷ [] else []) ds

    go : (b : Bool) → rest ≡ filter (matches form) ds → (if b then d ∷ [] else []) ++ rest ≡ (if b then d ∷ filter (matches form) ds else filter (matches form) ds)
    go true e = ap (λ l. d ∷ l) e
    go false e = e

-- ---- stages by what they return for one row, or for all

module _ (s : Stage) (later : List Stage) (source : List ℕ) (lists : Lists) (rows : List Row) where
  abbrev IsPart : List Row → Type 0
  IsPart left = through later source lists left ≡ through (s ∷ later) source lists rows

  behind : (left : List Row) → left ≡ stage s rows (foreign_of s source lists) → IsPart left
  unfolding through
  behind left is = ap (through later source lists) is

  module _ (f : Row → List Row) where
    pub part_match : (form : Members) → s ≡ Match form → f ≡ (λ d. if matches form d then d ∷ [] else []) → IsPart (flat_map f rows)
    unfolding stage
    part_match form is e = behind (flat_map f rows) (ap (λ g. flat_map g rows) e ∙ matched form rows ∙ ap (λ t. stage t rows (foreign_of s source lists)) (sym is))

    pub part_project : (p : projects.Project) → s ≡ Project p → f ≡ (λ d. projected p d ∷ []) → IsPart (flat_map f rows)
    unfolding stage
    part_project p is e = behind (flat_map f rows) (ap (λ g. flat_map g rows) e ∙ flat_map_single (projected p) rows ∙ ap (λ t. stage t rows (foreign_of s source lists)) (sym is))

    pub part_unwind : (u : unwinds.Unwind) → s ≡ Unwind u → f ≡ unwound u → IsPart (flat_map f rows)
    unfolding stage
    part_unwind u is e = behind (flat_map f rows) (ap (λ g. flat_map g rows) e ∙ ap (λ t. stage t rows (foreign_of s source lists)) (sym is))

    pub part_lookup : (l : lookups.Lookup) → s ≡ Lookup l → f ≡ (λ d. joined_row l (lists (beside source l.from)) d ∷ []) → IsPart (flat_map f rows)
    unfolding stage looked_up
    part_lookup l is e = behind (flat_map f rows) (ap (λ g. flat_map g rows) e ∙ flat_map_single (joined_row l (lists (beside source l.from))) rows ∙ ap (λ t. stage t rows (foreign_of t source lists)) (sym is))

  pub part_sort : (parts : List Part) → s ≡ Sort parts → IsPart (front (wanted later) (stable parts rows))
  unfolding through stage
  part_sort parts is = through_front later source lists (stable parts rows) ∙ ap (λ t. through (t ∷ later) source lists rows) (sym is)

  pub part_limit : (count : ℕ) → s ≡ Limit count → IsPart (take count rows)
  unfolding stage
  part_limit count is = behind (take count rows) (ap (λ t. stage t rows (foreign_of s source lists)) (sym is))

  pub part_group : (g : Grouping) → s ≡ Group g → IsPart (grouped g rows)
  unfolding stage
  part_group g is = behind (grouped g rows) (ap (λ t. stage t rows (foreign_of s source lists)) (sym is))

abbrev fronted : List Part → Option ℕ → List Row → Front
fronted parts most rows = record { parts = parts; most = most; rows = rows }

-- the prefix of no rows
pub front_nothing : (parts : List Part) (most : Option ℕ) → no_rows parts most ≡ front_of parts most []
unfolding stable
front_nothing parts None = refl
front_nothing parts (Some n) = ap (fronted parts (Some n)) (sym (take-nil n))
  where
    take-nil : (n : ℕ) → take n (let none : List Row = [] in none) ≡ []
    take-nil zero = refl
    take-nil (suc n) = refl
