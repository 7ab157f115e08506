-- First stages of a pipeline that are a find, and stages that look up nothing.
use Rattle.std.proofs.Common.{◌≡◌, ◌∙◌, ap, sym, refl, ℕ, Bool, true, false, not, ◌&&◌, List, [], ◌∷◌, ◌++◌, Option, Some, None, take, map, is_some, arith, take-take}
use Rattle.std.proofs.lemmas.List.{take-map}
use Rattle.std.specs.List.{list_all}
use Rattle.std.specs.Option.{option_map}
use Rattle.dv_match.specs.Filter.{Members, no_members}
use Rattle.dv_match.specs.Match.{matches}
use Rattle.dv_path.specs.SortSpec.{Part}
use Rattle.dv_pipe.specs.declared.stage.Stage.{Stage}
use Rattle.dv_gather.specs.Lookups.{joined_row, looked_up}
use Rattle.dv_gather.specs.declared.lookup.Lookup.{Lookup}
use Rattle.dv_pipe.specs.declared.stage.Stage.TheVariants as stages
use Rattle.dv_pipe.specs.declared.stage.Stage.TheVariants.{Match, Sort, Limit}
use Rattle.dv_pipe.specs.Sources.{Row}
use Rattle.dv_pipe.specs.Stages.{Lists, beside, foreign_of, from_of, rows_at, stage, through}
use Rattle.dv_sort.specs.Sorting.{front, stable}
use Rattle.dv_catalog.specs.Inner.Behind.{looks_nowhere}
use Rattle.dv_catalog.specs.Inner.Fronts.{wanted}
use Rattle.dv_catalog.specs.Scan.{matching}

module _ (stages later : List Stage) (source : List ℕ) (lists : Lists) (rows : List Row) where
  pub match_first : (form : Members) → stages ≡ Match form ∷ later → through later source lists (matching form rows) ≡ through stages source lists rows
  unfolding through stage
  match_first form is = ap (λ ss. through ss source lists rows) (sym is)

  pub sort_first : (parts : List Part) → stages ≡ Sort parts ∷ later → through later source lists (stable parts rows) ≡ through stages source lists rows
  unfolding through stage
  sort_first parts is = ap (λ ss. through ss source lists rows) (sym is)

  pub limit_first : (count : ℕ) → stages ≡ Limit count ∷ later → through later source lists (take count rows) ≡ through stages source lists rows
  unfolding through stage
  limit_first count is = ap (λ ss. through ss source lists rows) (sym is)

-- all rows match a filter without members
pub matching_all : (rows : List Row) → matching no_members rows ≡ rows
unfolding matches
matching_all [] = refl
matching_all (row ∷ rows) = ap (λ rs. row ∷ rs) (matching_all rows)

and-left : (a b : Bool) → a && b ≡ true → a ≡ true
and-left true b e = refl
and-left false b e = e

and-right : (a b : Bool) → a && b ≡ true → b ≡ true
and-right true b e = e
and-right false b e = absurd (let none : false ≡ true = e in cc)

module _ (source : List ℕ) (lists others : Lists) where
  foreign-same : (from : Option (List ℕ)) → not (is_some from) ≡ true → rows_at (option_map (beside source) from) lists ≡ rows_at (option_map (beside source) from) others
  foreign-same None none = refl
  foreign-same (Some name) none = absurd (let never : false ≡ true = none in cc)

  -- stages that look up nothing, a look-up, and the stages after it
  pub by_lookup : (before later : List Stage) (l : Lookup) (rows : List Row) → list_all looks_nowhere before ≡ true
      → through later source lists (looked_up l (through before source others rows) (lists (beside source l.from))) ≡ through (before ++ stages.Lookup l ∷ later) source lists rows
  unfolding through stage
  by_lookup [] later l rows nowhere = refl
  by_lookup (s ∷ ss) later l rows nowhere =
      ap (λ foreign. through later source lists (looked_up l (through ss source others (stage s rows foreign)) (lists (beside source l.from)))) (sym (foreign-same (from_of s) (and-left (looks_nowhere s) (list_all looks_nowhere ss) nowhere)))
      ∙ by_lookup ss later l (stage s rows (foreign_of s source lists)) (and-right (looks_nowhere s) (list_all looks_nowhere ss) nowhere)

front-map : (f : Row → Row) (most : Option ℕ) (rows : List Row) → map f (front most rows) ≡ front most (map f rows)
front-map f None rows = refl
front-map f (Some n) rows = sym (take-map f n rows)

-- the rows that stages need are enough for their result
pub wanted_enough : (ss : List Stage) (source : List ℕ) (lists : Lists) (rows : List Row) → through ss source lists (front (wanted ss) rows) ≡ through ss source lists rows
unfolding through stage looked_up
wanted_enough [] source lists rows = refl
wanted_enough (stages.Limit n ∷ ss) source lists rows = ap (through ss source lists) (take-take n n rows (omega arith))
wanted_enough (stages.Match form ∷ ss) source lists rows = refl
wanted_enough (stages.Project p ∷ ss) source lists rows = ap (through ss source lists) (front-map _ (wanted ss) rows) ∙ wanted_enough ss source lists (stage (stages.Project p) rows [])
wanted_enough (stages.Unwind u ∷ ss) source lists rows = refl
wanted_enough (stages.Sort parts ∷ ss) source lists rows = refl
wanted_enough (stages.Group g ∷ ss) source lists rows = refl
wanted_enough (stages.Lookup l ∷ ss) source lists rows =
    let joined = joined_row l (lists (beside source l.from)) in
    ap (through ss source lists) (front-map joined (wanted ss) rows) ∙ wanted_enough ss source lists (map joined rows)
