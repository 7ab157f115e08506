-- The entries of commands (MongoDB manual, "delete": `deletes`; "update": `updates`; "createIndexes": `indexes`). The entries of a
-- delete and an update are parsed one at a time, each when it is carried out. The order of the refusals is this server's own.
use Rattle.std.specs.Prelude.{ℕ, ◌&&◌, Bool, false, List, [], ◌∷◌, is_some, Result, Ok, Err, codes, nat_lt, length, if◌then◌else◌, ⊤}
use Rattle.dv_value.specs.Tree.{Field}
use Rattle.dv_candidates.specs.Path.{path_of}
use Rattle.dv_path.specs.SortSpec.{direction_of}
use Rattle.dv_match.specs.Filter.{Members}
use Rattle.dv_update.specs.Update.{Update}
use Rattle.dv_refusal.specs.declared.refusal.Refusal.{Refusal}
use Rattle.dv_refusal.specs.declared.refusal.Refusal.TheVariants.{BadValue, FailedToParse}
use Rattle.dv_value.specs.Results.{◌>>=◌}
use Rattle.dv_command.specs.Kinds as kinds
use Rattle.dv_command.specs.Fields.{check_fields, boolean_under, document_under, only_first_under, text_under, update_under}
use Rattle.dv_command.specs.Tables.{deletion_table, updating_table, index_table}
use Rattle.dv_command.specs.Forms.{filter_of, update_asked, is_replacement, or_bad_value}

-- a parsed entry of a delete: a filter, and whether only the first match or all are deleted
pub record Deletion : Type 0 where
  pub filter : Members
  pub only_first : Bool

-- parses an entry of a delete: its fields in written order, then required fields, then the filter
abbrev pub deletion_of : List Field → Result Deletion Refusal
deletion_of entry =
    check_fields kinds.entry deletion_table entry >>= λ _.
    document_under (codes "q") entry >>= λ q.
    only_first_under (codes "limit") entry >>= λ only_first.
    filter_of q >>= λ filter.
    Ok (record { filter = filter; only_first = only_first })

-- a parsed entry of an update: a filter, an update, and whether all matches are changed or only the first
pub record Updating : Type 0 where
  pub filter : Members
  pub update : Update
  pub multi : Bool

-- refuses a replacement with `multi: true` with 9
abbrev pub check_multi : Bool → List Field → Result ⊤ Refusal
check_multi multi u = if multi && is_replacement u then Err FailedToParse else Ok tt

-- parses an entry of an update: its fields in written order, then required fields, then a replacement of several documents, then the
-- filter, then the update
abbrev pub updating_of : List Field → Result Updating Refusal
updating_of entry =
    check_fields kinds.entry updating_table entry >>= λ _.
    document_under (codes "q") entry >>= λ q.
    update_under (codes "u") entry >>= λ u.
    boolean_under (codes "multi") false entry >>= λ multi.
    check_multi multi u >>= λ _.
    filter_of q >>= λ filter.
    update_asked u >>= λ update.
    Ok (record { filter = filter; update = update; multi = multi })

-- a parsed entry of a createIndexes: the index's name and path, and whether it is unique; the direction has no effect
pub record IndexAsked : Type 0 where
  pub name : List ℕ
  pub path : List (List ℕ)
  pub unique : Bool

-- the path of an index from its key: the name of the only field, whose value is a direction
abbrev pub key_path : List Field → Result (List (List ℕ)) Refusal
key_path [] = Err BadValue
key_path (f ∷ fs) = if is_some (direction_of f.1) then or_bad_value (path_of f.0) else Err BadValue

-- the greatest length of an index's name, in bytes
abbrev pub longest_index_name : ℕ
longest_index_name = 120

-- refuses a longer name with 2
abbrev pub check_index_name : List ℕ → Result ⊤ Refusal
check_index_name name = if nat_lt longest_index_name (length name) then Err BadValue else Ok tt

-- parses an entry of a createIndexes: its fields in written order, then required fields, then the key, then the length of the name
abbrev pub index_asked : List Field → Result IndexAsked Refusal
index_asked entry =
    check_fields kinds.entry index_table entry >>= λ _.
    document_under (codes "key") entry >>= λ key.
    text_under (codes "name") entry >>= λ name.
    boolean_under (codes "unique") false entry >>= λ unique.
    key_path key >>= λ path.
    check_index_name name >>= λ _.
    Ok (record { name = name; path = path; unique = unique })
