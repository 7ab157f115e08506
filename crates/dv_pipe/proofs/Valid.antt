-- What stages return for valid rows is valid, if the stages were read from valid values.
use Rattle.std.proofs.Common.{◌≡◌, ℕ, zero, suc, nat_le, Bool, List, [], ◌∷◌, ◌++◌, fold, map, filter, take, length, Option, Some, None, Result, Ok, Err, codes, if◌then◌else◌}
use Rattle.std.specs.Bool.{⊤}
use Rattle.std.specs.List.{AllByRecursion, flat_map}
use Rattle.std.specs.Result.{IfOk}
use Rattle.std.specs.Str.{bytes_eq}
use Rattle.dv_value.specs.Spelling.{IsValue, AreFields, AreElements}
use Rattle.dv_value.specs.Tree.{Tree, document, no_fields, field, fields_of, elements_of}
use Rattle.dv_match.specs.Match.{matches}
use Rattle.dv_row.specs.declared.fault.PipelineFault.{PipelineFault}
use Rattle.dv_row.specs.declared.fault.PipelineFault.TheVariants.{UnknownStage, TooMany}
use Rattle.dv_row.specs.declared.project.Project as projects
use Rattle.dv_row.specs.declared.unwind.Unwind as unwinds
use Rattle.dv_row.specs.Parsing.{unwind_in}
use Rattle.dv_value.specs.Results.{each}
use Rattle.dv_row.specs.Projecting.{projected}
use Rattle.dv_row.specs.ProjectParsing.{project_in}
use Rattle.dv_row.specs.Row.{Row}
use Rattle.dv_row.specs.Unwinding.{unwound}
use Rattle.dv_value.specs.Inner.ValidLaws.{AreValues, either}
use Rattle.dv_row.specs.Inner.Valid.{IsValid, AreValid, IsSoundProject, fields-valid, valid-fields, bound, any-ok, of-ok, each-sound}
use Rattle.dv_row.specs.Inner.ValidRows.{project_in-sound, projected-valid, unwound-valid}
use Rattle.dv_gather.specs.GroupParsing.{group_in}
use Rattle.dv_gather.specs.Lookups.{lookup_in}
use Rattle.dv_gather.specs.Inner.Valid.{IsSoundGroup, IsSoundLookup, group_in-sound, grouped-valid, lookup_in-sound, looked_up-valid}
use Rattle.dv_sort.specs.Sorting.{stands_before, placed, stable}
use Rattle.dv_pipe.specs.declared.stage.Stage.{Stage}
use Rattle.dv_pipe.specs.declared.stage.Stage.TheVariants.{Match, Project, Unwind, Sort, Limit, Group, Lookup}
use Rattle.dv_pipe.specs.StageParsing.{filter_form, sort_in, count_in, stage_named, stage_of, pipeline_of}
use Rattle.dv_pipe.specs.Stages.{Lists, stage, looked_into, rows_at, foreign_of, through, evaluated}

abbrev IsSoundStage : Stage → Type 0
IsSoundStage (Project p) = IsSoundProject p
IsSoundStage (Group g) = IsSoundGroup g
IsSoundStage (Lookup l) = IsSoundLookup l
IsSoundStage s = ⊤

-- ---- rows

filtered : (test : Row → Bool) (rows : List Row) → AreValid rows → AreValid (filter test rows)
filtered test [] valid = tt
filtered test (d ∷ ds) valid = either AreValid (test d) (d ∷ filter test ds) (filter test ds) (valid.0, filtered test ds valid.1) (filtered test ds valid.1)

shown : (p : projects.Project) (rows : List Row) → IsSoundProject p → AreValid rows → AreValid (map (projected p) rows)
shown p [] sound valid = tt
shown p (d ∷ ds) sound valid = (projected-valid p d sound valid.0, shown p ds sound valid.1)

joined : (rows others : List Row) → AreValid rows → AreValid others → AreValid (rows ++ others)
joined [] others valid fine = fine
joined (d ∷ ds) others valid fine = (valid.0, joined ds others valid.1 fine)

unwound-all : (u : unwinds.Unwind) (rows : List Row) → AreValid rows → AreValid (flat_map (unwound u) rows)
unwound-all u [] valid = tt
unwound-all u (d ∷ ds) valid = joined (unwound u d) (flat_map (unwound u) ds) (unwound-valid u d valid.0) (unwound-all u ds valid.1)

placed-valid : (before : Row → Row → Bool) (d : Row) (rows : List Row) → IsValid d → AreValid rows → AreValid (placed before d rows)
placed-valid before d [] valid fine = (valid, tt)
placed-valid before d (e ∷ es) valid fine = either AreValid (before d e) (d ∷ e ∷ es) (e ∷ placed before d es) (valid, fine) (fine.0, placed-valid before d es valid fine.1)

ordered-valid : (before : Row → Row → Bool) (so-far rows : List Row) → AreValid so-far → AreValid rows → AreValid (fold (λ ys x. placed before x ys) so-far rows)
ordered-valid before so-far [] fine valid = fine
ordered-valid before so-far (d ∷ ds) fine valid = ordered-valid before (placed before d so-far) ds (placed-valid before d so-far valid.0 fine) valid.1

taken : (n : ℕ) (rows : List Row) → AreValid rows → AreValid (take n rows)
taken zero rows valid = tt
taken (suc n) [] valid = tt
taken (suc n) (d ∷ ds) valid = (valid.0, taken n ds valid.1)

stage-valid : (s : Stage) (rows foreign : List Row) → IsSoundStage s → AreValid rows → AreValid foreign → AreValid (stage s rows foreign)
unfolding stage stable
stage-valid (Match form) rows foreign sound valid fine = filtered (matches form) rows valid
stage-valid (Project p) rows foreign sound valid fine = shown p rows sound valid
stage-valid (Unwind u) rows foreign sound valid fine = unwound-all u rows valid
stage-valid (Sort parts) rows foreign sound valid fine = ordered-valid (stands_before parts) [] rows tt valid
stage-valid (Limit n) rows foreign sound valid fine = taken n rows valid
stage-valid (Group g) rows foreign sound valid fine = grouped-valid g rows sound valid
stage-valid (Lookup l) rows foreign sound valid fine = looked_up-valid l rows foreign sound valid fine

rows_at-valid : (name : Option (List ℕ)) (lists : Lists) → ((name : List ℕ) → AreValid (lists name)) → AreValid (rows_at name lists)
rows_at-valid None lists fine = tt
rows_at-valid (Some name) lists fine = fine name

through-valid : (stages : List Stage) (source : List ℕ) (lists : Lists) (rows : List Row) → AllByRecursion IsSoundStage stages → ((name : List ℕ) → AreValid (lists name)) → AreValid rows → AreValid (through stages source lists rows)
unfolding through
through-valid [] source lists rows sounds fine valid = valid
through-valid (s ∷ ss) source lists rows sounds fine valid =
    through-valid ss source lists (stage s rows (foreign_of s source lists)) sounds.1 fine (stage-valid s rows (foreign_of s source lists) sounds.0 valid (rows_at-valid (looked_into s source) lists fine))

-- ---- stages

abbrev IsSoundlyRead : Result Stage PipelineFault → Type 0
IsSoundlyRead r = IfOk r IsSoundStage

stage_named-sound : (name : List ℕ) (v : Tree) → IsValue v → IsSoundlyRead (stage_named name v)
unfolding stage_named
stage_named-sound name v value =
    either IsSoundlyRead (bytes_eq name (codes "$match")) _ _ (bound (λ x. ⊤) IsSoundStage (λ form. Ok (Match form)) (λ form h. tt) (filter_form v) (any-ok (filter_form v)))
    (either IsSoundlyRead (bytes_eq name (codes "$project")) _ _ (bound IsSoundProject IsSoundStage (λ p. Ok (Project p)) (λ p sound. sound) (project_in v) (project_in-sound v value))
    (either IsSoundlyRead (bytes_eq name (codes "$unwind")) _ _ (bound (λ x. ⊤) IsSoundStage (λ u. Ok (Unwind u)) (λ u h. tt) (unwind_in v) (any-ok (unwind_in v)))
    (either IsSoundlyRead (bytes_eq name (codes "$sort")) _ _ (bound (λ x. ⊤) IsSoundStage (λ parts. Ok (Sort parts)) (λ parts h. tt) (sort_in v) (any-ok (sort_in v)))
    (either IsSoundlyRead (bytes_eq name (codes "$limit")) _ _ (bound (λ x. ⊤) IsSoundStage (λ n. Ok (Limit n)) (λ n h. tt) (count_in v) (any-ok (count_in v)))
    (either IsSoundlyRead (bytes_eq name (codes "$group")) _ _ (bound IsSoundGroup IsSoundStage (λ g. Ok (Group g)) (λ g sound. sound) (group_in v) (group_in-sound v value))
    (either IsSoundlyRead (bytes_eq name (codes "$lookup")) _ (Err UnknownStage) (bound IsSoundLookup IsSoundStage (λ l. Ok (Lookup l)) (λ l sound. sound) (lookup_in v) (lookup_in-sound v value)) tt))))))

stage_of-sound : (v : Tree) → IsValue v → IsSoundlyRead (stage_of v)
stage_of-sound (document (field name v no_fields)) value = stage_named-sound name v value.3
stage_of-sound v value = tt

values-taken : (n : ℕ) (vs : List Tree) → AreValues vs → AreValues (take n vs)
values-taken zero vs values = tt
values-taken (suc n) [] values = tt
values-taken (suc n) (v ∷ vs) values = (values.0, values-taken n vs values.1)

pipeline_of-sound : (list : List Tree) → AreValues list → IfOk (pipeline_of list) (AllByRecursion IsSoundStage)
unfolding pipeline_of
pipeline_of-sound list values =
    let Sound : Result (List Stage) PipelineFault → Type 0 = λ r. IfOk r (AllByRecursion IsSoundStage) in
    bound (AllByRecursion IsSoundStage) (AllByRecursion IsSoundStage) (λ stages. if nat_le (length list) 16 then Ok stages else Err TooMany)
    (λ stages sounds. either Sound (nat_le (length list) 16) (Ok stages) (Err TooMany) sounds tt) (each stage_of (take 16 list)) (each-sound IsValue IsSoundStage stage_of stage_of-sound (take 16 list) (values-taken 16 list values))

-- ---- documents with an encoding

abbrev AreSpelled : List Row → Type 0
AreSpelled rows = AllByRecursion (λ d. AreFields (fields_of d)) rows

listed : (rows : List Row) → AreSpelled rows → AreValid rows
listed [] valid = tt
listed (d ∷ ds) valid = (fields-valid d valid.0, listed ds valid.1)

spelled : (rows : List Row) → AreValid rows → AreSpelled rows
spelled [] valid = tt
spelled (d ∷ ds) valid = (valid-fields d valid.0, spelled ds valid.1)

listed-values : (vs : List Tree) → AreElements (elements_of vs) → AreValues vs
listed-values [] valid = tt
listed-values (v ∷ vs) valid = (valid.0, listed-values vs valid.1)

pub comes_out_valid : (list : List Tree) (stages : List Stage) (source : List ℕ) (lists : Lists) → AreElements (elements_of list) → pipeline_of list ≡ Ok stages → ((name : List ℕ) → AreSpelled (lists name)) → AreSpelled (evaluated stages source lists)
comes_out_valid list stages source lists values is fine =
    let all = λ (name : List ℕ). listed (lists name) (fine name) in
    spelled (evaluated stages source lists) (through-valid stages source lists (lists source) (of-ok (AllByRecursion IsSoundStage) (pipeline_of list) stages is (pipeline_of-sound list (listed-values list values))) all (all source))
