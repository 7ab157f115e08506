-- Documents as they are stored. That `_id` comes first and isn't an array, and the limits, are the MongoDB manual's ("Documents",
-- "MongoDB Limits and Thresholds"). That `_id` is required, and which names are refused, are this server's own.
use Rattle.std.specs.Prelude.{◌&&◌, not, Bool, List, ◌∷◌, Option, Some, None, Result, Ok, Err, codes, nat_lt, length, if◌then◌else◌}
use Rattle.dv_value.specs.Tree.{Tree, document, array, Field, fields_of}
use Rattle.dv_value.specs.Names.{value_under, without}
use Rattle.dv_value.specs.Spelling.{spelling, levels}
use Rattle.dv_refusal.specs.declared.refusal.Refusal.{Refusal}
use Rattle.dv_refusal.specs.declared.refusal.Refusal.TheVariants.{BadValue, TooLarge}
use Rattle.dv_path.specs.Names.{has_bad_name}
use Rattle.dv_update.specs.Apply.{document_limit, level_limit}
use Rattle.dv_value.specs.Results.{◌>>=◌}

-- the `_id` of a document: it is required, and can't be an array (2)
abbrev pub id_in : Option Tree → Result Tree Refusal
id_in None = Err BadValue
id_in (Some (array vs)) = Err BadValue
id_in (Some value) = Ok value

-- whether a document is within the limits for stored documents; a law says that this is `Fits`
abbrev pub is_within_limits : List Field → Bool
is_within_limits d = not (nat_lt document_limit (length (spelling d))) && not (nat_lt level_limit (levels (document (fields_of d))))

-- the document with `_id` as its first field; refused with 2 for a name that can't be stored, without `_id`, or with an array as `_id`
abbrev pub with_id_first : List Field → Result (List Field) Refusal
with_id_first d =
    if has_bad_name d then Err BadValue
    else id_in (value_under (codes "_id") d) >>= λ id. Ok ((codes "_id", id) ∷ without (codes "_id") d)

-- a document as it is stored, or why it can't be stored: first for its names and `_id`, then for its size (901)
abbrev pub storable : List Field → Result (List Field) Refusal
storable d = with_id_first d >>= λ stored. if is_within_limits stored then Ok stored else Err TooLarge
