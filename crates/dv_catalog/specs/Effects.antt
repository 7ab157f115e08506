-- What the parsed statements of a write do to documents (MongoDB manual, "insert", "update", "delete").
use Rattle.std.specs.Prelude.{Bool, true, false, not, List, [], ◌∷◌, length, map, take, Result, Ok, Err, is_some, if◌then◌else◌}
use Rattle.dv_value.specs.Tree.{Field, fields_of}
use Rattle.dv_coll.specs.Collection.{id_key, found}
use Rattle.dv_update.specs.Apply.{applied}
use Rattle.dv_order.specs.Same.{same_fields}
use Rattle.dv_update.specs.Update as form
use Rattle.dv_refusal.specs.declared.refusal.Refusal.{Refusal}
use Rattle.dv_refusal.specs.declared.refusal.Refusal.TheVariants.{DuplicateKey}
use Rattle.dv_command.specs.Entries.{Deletion, Updating}
use Rattle.dv_refusal.specs.Refusals.{refused_by, update_refusal}
use Rattle.dv_value.specs.Results.{◌>>=◌}
use Rattle.dv_catalog.specs.Changes.{Effect, Statement, gone, put}
use Rattle.dv_catalog.specs.Scan.{matching}

-- inserts a document; refused with 11000 if another has an equal `_id`
abbrev pub put_new : List Field → Statement
put_new d documents = if is_some (found (id_key d) documents) then Err DuplicateKey else Ok (record { matched = 1; changes = put d ∷ [] })

-- all documents, or only the first
abbrev pub all_or_first : Bool → List (List Field) → List (List Field)
all_or_first false documents = documents
all_or_first true documents = take 1 documents

-- the effect of removing these documents
abbrev pub without : List (List Field) → Effect
without documents = record { matched = length documents; changes = map (λ d. gone (id_key d)) documents }

-- removes the matches of a delete: all, or the first in the order of `_id`
abbrev pub delete_chosen : Deletion → Statement
delete_chosen deletion documents = Ok (without (all_or_first deletion.only_first (matching deletion.filter documents)))

-- a document after an update, or its refusal
abbrev pub after : form.Update → List Field → Result (List Field) Refusal
after update d = refused_by update_refusal (applied update d)

-- the documents after an update, in order, without those whose encoding stays the same; or the first refusal
abbrev pub changed_by : form.Update → List (List Field) → Result (List (List Field)) Refusal
changed_by update [] = Ok []
changed_by update (d ∷ ds) = after update d >>= λ e. changed_by update ds >>= λ es. Ok (if same_fields (fields_of d) (fields_of e) then es else e ∷ es)

-- whether the result differs from the document in its encoding; a refused one doesn't
abbrev pub differs : List Field → Result (List Field) Refusal → Bool
differs d (Ok e) = not (same_fields (fields_of d) (fields_of e))
differs d (Err refusal) = false

-- whether an update changes a document
abbrev pub changes : form.Update → List Field → Bool
changes update d = differs d (after update d)

-- updates the matches: all, or the first in the order of `_id`; all results are computed from the documents before the statement
abbrev pub update_chosen : Updating → Statement
update_chosen updating documents =
    let chosen = all_or_first (not updating.multi) (matching updating.filter documents) in
    changed_by updating.update chosen >>= λ changed. Ok (record { matched = length chosen; changes = map put changed })
