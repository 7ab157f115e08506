-- What $project and $unwind return for valid rows is valid.
use Rattle.std.proofs.Common.{◌≡◌, refl, ℕ, ◌||◌, ◌&&◌, not, Bool, true, false, List, [], ◌∷◌, ◌++◌, map, Some, None, Option, Ok}
use Rattle.std.specs.List.{AllByRecursion, list_any}
use Rattle.std.specs.Option.{IfSome}
use Rattle.std.specs.Result.{IfOk}
use Rattle.std.specs.Str.{IsUtf8, bytes_eq}
use Rattle.std.proofs.lemmas.Bool.{or_from, or_parts}
use Rattle.dv_value.specs.Names.{has_name, value_under}
use Rattle.dv_value.specs.Spelling.{IsValue, AreFields, AreElements}
use Rattle.dv_value.specs.Tree.{Tree, document, array, null, Fields, no_fields, field, Field, fields_of, list_of_fields, Elements, no_elements, element, list_of_elements}
use Rattle.dv_candidates.specs.Candidates.{Candidate}
use Rattle.dv_candidates.specs.Path.{path_of}
use Rattle.dv_row.specs.declared.fault.PipelineFault.TheVariants.{BadSpec, Conflict}
use Rattle.dv_row.specs.declared.project.Project.{Project}
use Rattle.dv_row.specs.declared.project.Project.TheVariants.{Include, Exclude}
use Rattle.dv_row.specs.declared.unwind.Unwind.{Unwind}
use Rattle.dv_row.specs.Expressions.{Expression, computed_of}
use Rattle.dv_path.specs.Names.{has_dot}
use Rattle.dv_row.specs.ExpressionParsing.{switch_in, expression_in}
use Rattle.dv_value.specs.Results.{◌>>=◌}
use Rattle.dv_row.specs.ProjectParsing.{AskedMembers, is_id_path, is_below_id, conflicts_with_asked, unless_conflict, with_included, with_excluded, with_computation, excludes, includes, with_path, with_expression, with_switch, with_named, with_member, members_in, nothing_asked, project_form, project_in}
use Rattle.dv_row.specs.Projecting.{paths_behind, ends, if_it, with_left, with_element_left, left_at, left_inside, fields_left, elements_left, row_left, projected}
use Rattle.dv_row.specs.Row.{Row}
use Rattle.dv_row.specs.Unwinding.{reached, in_document, set_under, changed_under, set_through, preserved, rows_of_elements, unwound_rows, unwound}
use Rattle.dv_value.specs.Inner.ValidLaws.{AreValues, listed-elements, either}
use Rattle.dv_row.specs.Inner.Valid.{IsValid, AreValid, IsSound, AreSound, IsSoundProject, IsSoundField, listed-fields, valid-fields, bound, unless, value_under-valid, with_value_under-valid, without-valid, with_computed-valid, expression_in-sound}

-- ---- the form of a $project

abbrev IsSoundlyAsked : AskedMembers → Type 0
IsSoundlyAsked asked = AllByRecursion IsSoundField asked.computed

one-more : (cs : List (List ℕ × Expression)) (c : List ℕ × Expression) → AllByRecursion IsSoundField cs → IsSoundField c → AllByRecursion IsSoundField (cs ++ c ∷ [])
one-more [] c sounds sound = (sound, tt)
one-more (b ∷ cs) c sounds sound = (sounds.0, one-more cs c sounds.1 sound)

sound-computed : (cs : List (List ℕ × Expression)) → AllByRecursion IsSoundField cs → AreSound (computed_of cs)
sound-computed [] sounds = tt
sound-computed (c ∷ cs) sounds = (sounds.0.0, sounds.0.1, sound-computed cs sounds.1)

with_path-sound : (b : Bool) (p : List (List ℕ)) (asked : AskedMembers) → IsSoundlyAsked asked → IfOk (with_path b p asked) IsSoundlyAsked
with_path-sound true p asked sound = unless IsSoundlyAsked (is_below_id p || excludes asked) BadSpec (unless_conflict p asked (with_included p asked)) (unless IsSoundlyAsked (conflicts_with_asked p asked) Conflict (Ok (with_included p asked)) sound)
with_path-sound false p asked sound = unless IsSoundlyAsked (is_below_id p || (not (is_id_path p) && includes asked)) BadSpec (unless_conflict p asked (with_excluded p asked)) (unless IsSoundlyAsked (conflicts_with_asked p asked) Conflict (Ok (with_excluded p asked)) sound)

with_expression-sound : (name : List ℕ) (p : List (List ℕ)) (asked : AskedMembers) → IsUtf8 name → IsSoundlyAsked asked → (e : Expression) → IsSound e → IfOk (with_expression name p asked e) IsSoundlyAsked
with_expression-sound name p asked text sounds e sound =
    unless IsSoundlyAsked (excludes asked) BadSpec (unless_conflict p asked (with_computation name e asked))
    (unless IsSoundlyAsked (conflicts_with_asked p asked) Conflict (Ok (with_computation name e asked)) (one-more asked.computed (name, e) sounds (text, sound)))

with_switch-sound : (switch : Option Bool) (name : List ℕ) (p : List (List ℕ)) (v : Tree) (asked : AskedMembers) → IsUtf8 name → IsValue v → IsSoundlyAsked asked → IfOk (with_switch switch name p v asked) IsSoundlyAsked
with_switch-sound (Some b) name p v asked text value sounds = with_path-sound b p asked sounds
with_switch-sound None name p v asked text value sounds =
    unless IsSoundlyAsked (has_dot name) BadSpec (expression_in false v >>= with_expression name p asked)
    (bound IsSound IsSoundlyAsked (with_expression name p asked) (with_expression-sound name p asked text sounds) (expression_in false v) (expression_in-sound false v value))

with_named-sound : (path : Option (List (List ℕ))) (name : List ℕ) (v : Tree) (asked : AskedMembers) → IsUtf8 name → IsValue v → IsSoundlyAsked asked → IfOk (with_named path name v asked) IsSoundlyAsked
with_named-sound None name v asked text value sounds = tt
with_named-sound (Some p) name v asked text value sounds = with_switch-sound (switch_in v) name p v asked text value sounds

members_in-sound : (asked : AskedMembers) (fs : List Field) → IsValid fs → IsSoundlyAsked asked → IfOk (members_in asked fs) IsSoundlyAsked
members_in-sound asked [] valid sounds = sounds
members_in-sound asked (f ∷ fs) valid sounds =
    bound IsSoundlyAsked IsSoundlyAsked (λ more. members_in more fs) (λ more sounds. members_in-sound more fs valid.4 sounds) (with_member f asked) (with_named-sound (path_of f.0) f.0 f.1 asked valid.0 valid.3 sounds)

form-sound : (asked : AskedMembers) → IsSoundlyAsked asked → IsSoundProject (project_form asked)
form-sound asked sounds = go (includes asked) refl
  where
    go : (b : Bool) → includes asked ≡ b → IsSoundProject (project_form asked)
    go true e = rw e (sound-computed asked.computed sounds)
    go false e = rw e tt

pub project_in-sound : (v : Tree) → IsValue v → IfOk (project_in v) IsSoundProject
unfolding project_in
project_in-sound (document no_fields) value = tt
project_in-sound (document (field name v fs)) value =
    let d = list_of_fields (field name v fs) in
    bound IsSoundlyAsked IsSoundProject (λ asked. Ok (project_form asked)) form-sound (members_in nothing_asked d) (members_in-sound nothing_asked d (listed-fields (field name v fs) value) tt)
project_in-sound v value = tt

-- ---- what is left of a row

if_it-valid : (b : Bool) (v : Tree) → IsValue v → IfSome (if_it b v) IsValue
if_it-valid true v value = value
if_it-valid false v value = tt

left_at-valid : (keeps : Bool) (paths : List (List (List ℕ))) (v : Tree) (inside : Candidate) → IsValue v → IfSome inside IsValue → IfSome (left_at keeps paths v inside) IsValue
left_at-valid keeps [] v inside value sound = if_it-valid (not keeps) v value
left_at-valid keeps (path ∷ paths) v inside value sound = either (λ c. IfSome c IsValue) (list_any ends (path ∷ paths)) (if_it keeps v) inside (if_it-valid keeps v value) sound

has_name-left : (other name : List ℕ) (c : Candidate) (fs : Fields) (absent : bytes_eq other name ≡ false) → has_name other (list_of_fields fs) ≡ false → has_name other (list_of_fields (with_left name c fs)) ≡ false
has_name-left other name None fs absent rest = rest
has_name-left other name (Some v) fs absent rest = or_from (bytes_eq other name) _ absent rest

has_name-fields_left : (other : List ℕ) (keeps : Bool) (paths : List (List (List ℕ))) (fs : Fields) → has_name other (list_of_fields fs) ≡ false → has_name other (list_of_fields (fields_left keeps paths fs)) ≡ false
unfolding fields_left
has_name-fields_left other keeps paths no_fields absent = refl
has_name-fields_left other keeps paths (field name v fs) absent =
    has_name-left other name (left_at keeps (paths_behind name paths) v (left_inside keeps (paths_behind name paths) v)) (fields_left keeps paths fs) (or_parts (bytes_eq other name) _ absent).0 (has_name-fields_left other keeps paths fs (or_parts (bytes_eq other name) _ absent).1)

with_left-valid : (name : List ℕ) (c : Candidate) (fs : Fields) → IfSome c IsValue → ((v : Tree) → IsValue v → AreFields (field name v fs)) → AreFields fs → AreFields (with_left name c fs)
with_left-valid name None fs value more rest = rest
with_left-valid name (Some v) fs value more rest = more v value

with_element-valid : (c : Candidate) (vs : Elements) → IfSome c IsValue → AreElements vs → AreElements (with_element_left c vs)
with_element-valid None vs value rest = rest
with_element-valid (Some v) vs value rest = (value, rest)

mutual
  unfolding left_inside fields_left elements_left

  left_inside-valid : (keeps : Bool) (paths : List (List (List ℕ))) (v : Tree) → IsValue v → IfSome (left_inside keeps paths v) IsValue
  left_inside-valid keeps paths (document fs) value = fields_left-valid keeps paths fs value
  left_inside-valid keeps paths (array vs) value = elements_left-valid keeps paths vs value
  left_inside-valid keeps paths v value = if_it-valid (not keeps) v value

  fields_left-valid : (keeps : Bool) (paths : List (List (List ℕ))) (fs : Fields) → AreFields fs → AreFields (fields_left keeps paths fs)
  fields_left-valid keeps paths no_fields valid = tt
  fields_left-valid keeps paths (field name v fs) valid =
      let rest = fields_left-valid keeps paths fs valid.4 in
      with_left-valid name (left_at keeps (paths_behind name paths) v (left_inside keeps (paths_behind name paths) v)) (fields_left keeps paths fs)
      (left_at-valid keeps (paths_behind name paths) v (left_inside keeps (paths_behind name paths) v) valid.3 (left_inside-valid keeps (paths_behind name paths) v valid.3))
      (λ w value. (valid.0, valid.1, has_name-fields_left name keeps paths fs valid.2, value, rest)) rest

  elements_left-valid : (keeps : Bool) (paths : List (List (List ℕ))) (vs : Elements) → AreElements vs → AreElements (elements_left keeps paths vs)
  elements_left-valid keeps paths no_elements valid = tt
  elements_left-valid keeps paths (element v vs) valid = with_element-valid (left_inside keeps paths v) (elements_left keeps paths vs) (left_inside-valid keeps paths v valid.0) (elements_left-valid keeps paths vs valid.1)

row_left-valid : (keeps : Bool) (paths : List (List (List ℕ))) (d : Row) → IsValid d → IsValid (row_left keeps paths d)
row_left-valid keeps paths d valid = listed-fields (fields_left keeps paths (fields_of d)) (fields_left-valid keeps paths (fields_of d) (valid-fields d valid))

pub projected-valid : (p : Project) (d : Row) → IsSoundProject p → IsValid d → IsValid (projected p d)
unfolding projected
projected-valid (Include paths es) d sound valid = with_computed-valid es d (row_left true paths d) sound valid (row_left-valid true paths d valid)
projected-valid (Exclude paths) d sound valid = row_left-valid false paths d valid

-- ---- what $unwind returns for a row

in_document-valid : (look : List Field → Candidate) → ((fs : List Field) → IsValid fs → IfSome (look fs) IsValue) → (c : Candidate) → IfSome c IsValue → IfSome (in_document look c) IsValue
in_document-valid look sound (Some (document fs)) value = sound (list_of_fields fs) (listed-fields fs value)
in_document-valid look sound None value = tt
in_document-valid look sound (Some v) value = tt

reached-valid : (path : List (List ℕ)) (fs : List Field) → IsValid fs → IfSome (reached path fs) IsValue
reached-valid [] fs valid = tt
reached-valid (name ∷ []) fs valid = value_under-valid name fs valid
reached-valid (name ∷ next ∷ names) fs valid = in_document-valid (reached (next ∷ names)) (reached-valid (next ∷ names)) (value_under name fs) (value_under-valid name fs valid)

changed_under-valid : (name : List ℕ) (change : List Field → List Field) → ((fs : List Field) → IsValid fs → IsValid (change fs)) → (c : Candidate) (fs : List Field) → IfSome c IsValue → IsValid fs → IsValid (changed_under name change c fs)
changed_under-valid name change sound (Some (document inner)) fs value valid =
    with_value_under-valid name (document (fields_of (change (list_of_fields inner)))) fs (valid-fields (change (list_of_fields inner)) (sound (list_of_fields inner) (listed-fields inner value))) valid
changed_under-valid name change sound None fs value valid = valid
changed_under-valid name change sound (Some v) fs value valid = valid

set_under-valid : (name : List ℕ) (c : Candidate) (fs : List Field) → IfSome c IsValue → IsValid fs → IsValid (set_under name c fs)
set_under-valid name (Some v) fs value valid = with_value_under-valid name v fs value valid
set_under-valid name None fs value valid = without-valid name fs valid

set_at-valid : (path : List (List ℕ)) (c : Candidate) (fs : List Field) → IfSome c IsValue → IsValid fs → IsValid (set_through path c fs)
set_at-valid [] c fs value valid = valid
set_at-valid (name ∷ []) c fs value valid = set_under-valid name c fs value valid
set_at-valid (name ∷ next ∷ names) c fs value valid =
    changed_under-valid name (set_through (next ∷ names) c) (λ gs inner. set_at-valid (next ∷ names) c gs value inner) (value_under name fs) fs (value_under-valid name fs valid) valid

preserved-valid : (b : Bool) (d : Row) → IsValid d → AreValid (preserved b d)
preserved-valid b d valid = either AreValid b (d ∷ []) [] (valid, tt) tt

elements-valid : (path : List (List ℕ)) (d : Row) (vs : List Tree) → IsValid d → AreValues vs → AreValid (map (λ v. set_through path (Some v) d) vs)
elements-valid path d [] valid values = tt
elements-valid path d (v ∷ vs) valid values = (set_at-valid path (Some v) d values.0 valid, elements-valid path d vs valid values.1)

rows_of_elements-valid : (u : Unwind) (d : Row) (vs : Elements) → IsValid d → AreElements vs → AreValid (rows_of_elements u d vs)
rows_of_elements-valid u d no_elements valid values = preserved-valid u.preserve (set_through u.path None d) (set_at-valid u.path None d tt valid)
rows_of_elements-valid u d (element v vs) valid values = elements-valid u.path d (list_of_elements (element v vs)) valid (listed-elements (element v vs) values)

rows_of-valid : (u : Unwind) (d : Row) (c : Candidate) → IsValid d → IfSome c IsValue → AreValid (unwound_rows u d c)
rows_of-valid u d None valid value = preserved-valid u.preserve d valid
rows_of-valid u d (Some null) valid value = preserved-valid u.preserve d valid
rows_of-valid u d (Some (array vs)) valid value = rows_of_elements-valid u d vs valid value
rows_of-valid u d (Some v) valid value = (valid, tt)

pub unwound-valid : (u : Unwind) (d : Row) → IsValid d → AreValid (unwound u d)
unfolding unwound
unwound-valid u d valid = rows_of-valid u d (reached u.path d) valid (reached-valid u.path d valid)
