-- How a path after a dollar sign, and the operand of `$unwind`, are parsed: the parsed form, or the fault (MongoDB manual, "$unwind
-- (aggregation)"). Which fault is reported is this server's own.
use Rattle.std.specs.Prelude.{ℕ, ◌==◌, ◌||◌, Bool, false, Option, Some, None, List, [], ◌∷◌, Result, Ok, Err, codes, if◌then◌else◌}
use Rattle.std.specs.Str.{bytes_eq}
use Rattle.std.specs.List.{list_all}
use Rattle.dv_value.specs.Results.{◌>>=◌}
use Rattle.dv_value.specs.Tree.{Tree, string, boolean, document, Field, list_of_fields}
use Rattle.dv_value.specs.Names.{begins_with_dollar, value_under}
use Rattle.dv_candidates.specs.Candidates.{Candidate}
use Rattle.dv_candidates.specs.Path.{path_of}
use Rattle.dv_row.specs.declared.fault.PipelineFault.{PipelineFault}
use Rattle.dv_row.specs.declared.fault.PipelineFault.TheVariants.{BadSpec}
use Rattle.dv_row.specs.declared.unwind.Unwind.{Unwind}

-- the text after a dollar sign, if it begins with one
abbrev pub behind_dollar : List ℕ → Option (List ℕ)
behind_dollar [] = None
behind_dollar (b ∷ text) = if b == 36 then Some text else None

-- the path, if it is valid and its text has no further dollar sign in front
abbrev pub named_path : List ℕ → Option (List (List ℕ)) → Result (List (List ℕ)) PipelineFault
named_path text None = Err BadSpec
named_path text (Some path) = if begins_with_dollar text then Err BadSpec else Ok path

-- a path after one dollar sign; two dollar signs would begin a variable, and there are none
abbrev pub path_behind : Option (List ℕ) → Result (List (List ℕ)) PipelineFault
path_behind None = Err BadSpec
path_behind (Some text) = named_path text (path_of text)

-- the path that a string such as `$address.city` gives
abbrev pub path_in : List ℕ → Result (List (List ℕ)) PipelineFault
path_in text = path_behind (behind_dollar text)

-- whether this is the name of an option of `$unwind`
abbrev pub is_option_name : List ℕ → Bool
is_option_name name = bytes_eq name (codes "path") || bytes_eq name (codes "preserveNullAndEmptyArrays")

-- whether the field is an option of `$unwind`
abbrev pub is_option : Field → Bool
is_option f = is_option_name f.0

-- the option `path`: a string with a path after a dollar sign
abbrev pub path_option : Candidate → Result (List (List ℕ)) PipelineFault
path_option (Some (string text)) = path_in text
path_option v = Err BadSpec

-- the option `preserveNullAndEmptyArrays`: a boolean; false if it is left out
abbrev pub preserve_option : Candidate → Result Bool PipelineFault
preserve_option None = Ok false
preserve_option (Some (boolean b)) = Ok b
preserve_option (Some v) = Err BadSpec

abbrev pub unwinding : List (List ℕ) → Bool → Unwind
unwinding path preserve = record { path = path; preserve = preserve }

-- an `$unwind` from a document of options: an unknown option is refused first, then the path, then the other option
abbrev pub unwind_of : List Field → Result Unwind PipelineFault
unwind_of options =
    if list_all is_option options then (path_option (value_under (codes "path") options) >>= λ path. preserve_option (value_under (codes "preserveNullAndEmptyArrays") options) >>= λ preserve. Ok (unwinding path preserve))
    else Err BadSpec

-- the operand of `$unwind`: a path, or a document of options
unfoldable pub unwind_in : Tree → Result Unwind PipelineFault
unwind_in (string text) = path_in text >>= λ path. Ok (unwinding path false)
unwind_in (document options) = unwind_of (list_of_fields options)
unwind_in v = Err BadSpec
