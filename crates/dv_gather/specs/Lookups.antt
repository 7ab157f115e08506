-- What `$lookup` returns for rows, and how it is parsed (MongoDB manual, "$lookup (aggregation)"). Which names are accepted, and which
-- fault is reported, are this server's own.
use Rattle.std.specs.Prelude.{ℕ, ◌==◌, ◌||◌, List, length, Option, Some, None, Result, Ok, Err, codes, map, if◌then◌else◌}
use Rattle.dv_value.specs.Tree.{Tree, string, array, document, Field, elements_of, list_of_fields}
use Rattle.dv_value.specs.Names.{begins_with_dollar, has_name, has_zero, value_under, with_value_under}
use Rattle.dv_candidates.specs.Candidates.{Candidate}
use Rattle.dv_candidates.specs.Path.{path_of}
use Rattle.dv_row.specs.declared.fault.PipelineFault.{PipelineFault}
use Rattle.dv_row.specs.declared.fault.PipelineFault.TheVariants.{BadSpec}
use Rattle.dv_row.specs.Expressions.{with_field_behind}
use Rattle.dv_value.specs.Results.{◌>>=◌}
use Rattle.dv_path.specs.Names.{has_dot}
use Rattle.dv_row.specs.Row.{Row}
use Rattle.dv_gather.specs.declared.lookup.Lookup.{Lookup}
use Rattle.dv_gather.specs.Joining.{as_value, joined_with}

-- ---- rows

-- the fields with the value under the name: in its present place, or as the last field if it is new. (A new name with a zero byte, which no
-- parsed `$lookup` has, is not added.)
abbrev pub set_field : List ℕ → Tree → List Field → List Field
set_field name v fs = if has_name name fs then with_value_under name v fs else with_field_behind name (Some v) fs

-- the matches of a row, as an array
abbrev pub joined_documents : Lookup → List Row → Row → Tree
joined_documents l others d = array (elements_of (map as_value (joined_with l.local l.foreign others d)))

-- a row with the array of its matches
abbrev pub joined_row : Lookup → List Row → Row → Row
joined_row l others d = set_field l.target (joined_documents l others d) d

-- each row with the array of its matches among the other documents
unfoldable pub looked_up : Lookup → List Row → List Row → List Row
looked_up l ds others = map (joined_row l others) ds

-- ---- parsing

-- a string
abbrev pub text_in : Candidate → Result (List ℕ) PipelineFault
text_in (Some (string text)) = Ok text
text_in c = Err BadSpec

-- the string under an option's name, which is required
abbrev pub text_option : List ℕ → List Field → Result (List ℕ) PipelineFault
text_option name options = text_in (value_under name options)

-- a collection's name: not empty, without a dollar sign in front, and without a zero byte
abbrev pub collection_name : List ℕ → Result (List ℕ) PipelineFault
collection_name text = if length text == 0 || begins_with_dollar text || has_zero text then Err BadSpec else Ok text

-- the path, or the fault that there is none
abbrev pub path_or_fault : Option (List (List ℕ)) → Result (List (List ℕ)) PipelineFault
path_or_fault None = Err BadSpec
path_or_fault (Some path) = Ok path

-- the name under which the array is put: without a dot, without a dollar sign in front, and without a zero byte
abbrev pub target_in : List ℕ → Result (List ℕ) PipelineFault
target_in text = if has_dot text || begins_with_dollar text || has_zero text then Err BadSpec else Ok text

-- the option `from`
abbrev pub from_option : List Field → Result (List ℕ) PipelineFault
from_option options = text_option (codes "from") options >>= collection_name

-- the option `localField` or `foreignField`
abbrev pub field_option : List ℕ → List Field → Result (List (List ℕ)) PipelineFault
field_option name options = text_option name options >>= λ text. path_or_fault (path_of text)

-- the option `as`
abbrev pub as_option : List Field → Result (List ℕ) PipelineFault
as_option options = text_option (codes "as") options >>= target_in

-- a `$lookup` of its options
abbrev pub looking : List ℕ → List (List ℕ) → List (List ℕ) → List ℕ → Lookup
looking from local foreign target = record { from = from; local = local; foreign = foreign; target = target }

-- A `$lookup` from its document: exactly the four options, checked in the order `from`, `localField`, `foreignField`, `as`. Names are
-- distinct, so that four fields with these names are all of them.
abbrev pub lookup_of : List Field → Result Lookup PipelineFault
lookup_of options =
    if length options == 4 then (from_option options >>= λ from. field_option (codes "localField") options >>= λ local. field_option (codes "foreignField") options >>= λ foreign. as_option options >>= λ target. Ok (looking from local foreign target))
    else Err BadSpec

-- the operand of `$lookup`: a document
unfoldable pub lookup_in : Tree → Result Lookup PipelineFault
lookup_in (document options) = lookup_of (list_of_fields options)
lookup_in v = Err BadSpec
