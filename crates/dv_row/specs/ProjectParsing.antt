-- How a `$project` is parsed: the parsed form, or the first fault in written order (MongoDB manual, "$project (aggregation)"). Which
-- fault is reported is this server's own.
use Rattle.std.specs.Prelude.{ℕ, ◌==◌, ◌&&◌, ◌||◌, not, Bool, true, false, List, [], ◌∷◌, ◌++◌, length, Option, Some, None, Result, Ok, Err, codes, if◌then◌else◌}
use Rattle.std.specs.List.{list_any, list_all, zip}
use Rattle.std.specs.Str.{bytes_eq}
use Rattle.dv_value.specs.Tree.{Tree, document, no_fields, Field, list_of_fields}
use Rattle.dv_candidates.specs.Path.{path_of}
use Rattle.dv_row.specs.declared.fault.PipelineFault.{PipelineFault}
use Rattle.dv_row.specs.declared.fault.PipelineFault.TheVariants.{BadSpec, Conflict}
use Rattle.dv_row.specs.declared.project.Project.{Project}
use Rattle.dv_row.specs.declared.project.Project.TheVariants.{Include, Exclude}
use Rattle.dv_row.specs.Expressions.{Expression, computed_of}
use Rattle.dv_path.specs.Names.{has_dot}
use Rattle.dv_row.specs.ExpressionParsing.{switch_in, expression_in}
use Rattle.dv_value.specs.Results.{◌>>=◌}

-- ---- members

-- what the members of a `$project` ask for: included paths, excluded paths, and computed fields
pub record AskedMembers : Type 0 where
  pub included : List (List (List ℕ))
  pub excluded : List (List (List ℕ))
  pub computed : List (List ℕ × Expression)

-- whether the path is `_id`
abbrev pub is_id_path : List (List ℕ) → Bool
is_id_path [] = false
is_id_path (n ∷ []) = bytes_eq n (codes "_id")
is_id_path (n ∷ m ∷ ns) = false

-- whether the path leads into `_id`
abbrev pub is_below_id : List (List ℕ) → Bool
is_below_id [] = false
is_below_id (n ∷ []) = false
is_below_id (n ∷ m ∷ ns) = bytes_eq n (codes "_id")

-- whether one of the paths begins or equals the other
abbrev pub one_begins : List (List ℕ) → List (List ℕ) → Bool
one_begins p q = list_all (λ c. bytes_eq c.0 c.1) (zip p q)

-- whether the path conflicts with one of an earlier member: one of them begins or equals the other
abbrev pub conflicts_with_asked : List (List ℕ) → AskedMembers → Bool
conflicts_with_asked p asked = list_any (one_begins p) asked.included || list_any (one_begins p) asked.excluded || list_any (λ c. one_begins p (c.0 ∷ [])) asked.computed

-- what is asked for, or a conflict if the path conflicts with one of an earlier member
abbrev pub unless_conflict : List (List ℕ) → AskedMembers → AskedMembers → Result AskedMembers PipelineFault
unless_conflict p asked more = if conflicts_with_asked p asked then Err Conflict else Ok more

-- what is asked for, with one more included path
abbrev pub with_included : List (List ℕ) → AskedMembers → AskedMembers
with_included p asked = record asked { included = asked.included ++ p ∷ [] }

-- what is asked for, with one more excluded path
abbrev pub with_excluded : List (List ℕ) → AskedMembers → AskedMembers
with_excluded p asked = record asked { excluded = asked.excluded ++ p ∷ [] }

-- what is asked for, with one more computed field
abbrev pub with_computation : List ℕ → Expression → AskedMembers → AskedMembers
with_computation name e asked = record asked { computed = asked.computed ++ (name, e) ∷ [] }

-- whether a member excludes a path other than `_id`
abbrev pub excludes : AskedMembers → Bool
excludes asked = list_any (λ p. not (is_id_path p)) asked.excluded

-- whether a member includes a path or computes a field
abbrev pub includes : AskedMembers → Bool
includes asked = not (length asked.included == 0 && length asked.computed == 0)

-- What is asked for, with a path that is included or excluded. A path into `_id` is refused; beside included paths and computed fields,
-- only `_id` can be excluded.
abbrev pub with_path : Bool → List (List ℕ) → AskedMembers → Result AskedMembers PipelineFault
with_path true p asked = if is_below_id p || excludes asked then Err BadSpec else unless_conflict p asked (with_included p asked)
with_path false p asked = if is_below_id p || not (is_id_path p) && includes asked then Err BadSpec else unless_conflict p asked (with_excluded p asked)

-- what is asked for, with a computed field, which is refused beside an excluded path other than `_id`
abbrev pub with_expression : List ℕ → List (List ℕ) → AskedMembers → Expression → Result AskedMembers PipelineFault
with_expression name p asked e = if excludes asked then Err BadSpec else unless_conflict p asked (with_computation name e asked)

-- what is asked for, with a member that includes or excludes its path, or computes a field, whose name contains no dot
abbrev pub with_switch : Option Bool → List ℕ → List (List ℕ) → Tree → AskedMembers → Result AskedMembers PipelineFault
with_switch (Some switch) name p v asked = with_path switch p asked
with_switch None name p v asked = if has_dot name then Err BadSpec else (expression_in false v >>= with_expression name p asked)

-- what is asked for, with a member and its path; a name that is no path is refused
abbrev pub with_named : Option (List (List ℕ)) → List ℕ → Tree → AskedMembers → Result AskedMembers PipelineFault
with_named None name v asked = Err BadSpec
with_named (Some p) name v asked = with_switch (switch_in v) name p v asked

-- what is asked for, with one more member: its name is a path; its value includes or excludes the path, or is an expression
abbrev pub with_member : Field → AskedMembers → Result AskedMembers PipelineFault
with_member f asked = with_named (path_of f.0) f.0 f.1 asked

-- what is asked for, with these members in written order
abbrev pub members_in : AskedMembers → List Field → Result AskedMembers PipelineFault
members_in asked [] = Ok asked
members_in asked (f ∷ fs) = with_member f asked >>= λ more. members_in more fs

-- ---- the form

-- what is asked for before the first member: nothing
abbrev pub nothing_asked : AskedMembers
nothing_asked = record { included = []; excluded = []; computed = [] }

-- the included paths, and `_id` unless a member includes, excludes or computes it
abbrev pub with_id_path : AskedMembers → List (List (List ℕ))
with_id_path asked = if conflicts_with_asked (codes "_id" ∷ []) asked then asked.included else asked.included ++ (codes "_id" ∷ []) ∷ []

-- a parsed `$project`: it includes paths if a member includes or computes anything, otherwise it excludes paths
abbrev pub project_form : AskedMembers → Project
project_form asked = if includes asked then Include (with_id_path asked) (computed_of asked.computed) else Exclude asked.excluded

-- the operand of `$project`: a document that isn't empty
unfoldable pub project_in : Tree → Result Project PipelineFault
project_in (document no_fields) = Err BadSpec
project_in (document fs) = members_in nothing_asked (list_of_fields fs) >>= λ asked. Ok (project_form asked)
project_in v = Err BadSpec
