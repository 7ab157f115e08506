-- The worked examples of deletes and finds, computed.
use Rattle.std.proofs.Common.{◌≡◌, ℕ, ◌+◌, true, false, List, [], ◌∷◌, length, Ok, refl, ap, ◌∙◌}
use Rattle.std.specs.Fmt.{digits}
use Rattle.std.specs.Prelude.{codes}
use Rattle.dv_value.specs.Tree.{Field, null}
use Rattle.dv_coll.specs.Collection.{id_key}
use Rattle.dv_command.specs.Replies.{document_of}
use Rattle.dv_value.specs.Spelling.{framed, element_spelling, payload, counted}
use Rattle.dv_candidates.specs.Path.{path_of, index_of}
use Rattle.dv_candidates.specs.Candidates.{whole, leaves}
use Rattle.dv_path.specs.declared.direction.Direction.TheVariants.{Ascending, Descending}
use Rattle.dv_path.specs.SortKey.{sort_key}
use Rattle.dv_path.specs.SortSpec.{Part}
use Rattle.dv_match.specs.declared.range.Range.TheVariants.{Above, Below}
use Rattle.dv_match.specs.Filter.{Members, no_members, more_members, at_path, in_range, equal, Conditions, no_conditions, more_conditions}
use Rattle.dv_match.specs.Match.{matches, matches_member, meets_all, meets}
use Rattle.dv_match.specs.Parsing.{filter_in, conditions_in, operators_in, member_named, operator_named}
use Rattle.dv_sort.specs.Sorting.{stable}
use Rattle.dv_catalog.specs.Changes.{Change, gone, apply, done_to, with_changes}
use Rattle.dv_command.specs.Asked as asking
use Rattle.dv_command.specs.declared.asking.WriteKind.TheVariants.{Delete}
use Rattle.dv_core.specs.Inner.Examples.{only, one_field, number, deletion, holding, three, bounded, nulls, keyed_documents, DeleteExamples, FindExamples}
use Rattle.dv_core.specs.Find.{first_batch}
use Rattle.dv_cursor.specs.Batch.{batch}
use Rattle.dv_cursor.specs.Cursors.{no_cursors}
use Rattle.dv_catalog.specs.Scan.{scan}
use Rattle.dv_catalog.specs.State.{documents_of, with_documents}
use Rattle.dv_core.specs.State.{empty_store_state}
use Rattle.dv_core.specs.Statements.{nothing_written, with_next}
use Rattle.dv_core.specs.Step.{answered, on_cursors, write_answer}
use Rattle.dv_core.specs.Writes.{delete_one, write_by}
use Rattle.dv_core.proofs.Worked.{t_c, nothing_there, put_in, put_there, put_twice, with_only, wrote, wrote_so, looked_at}

-- one entry that removes documents from c
module _ (documents after : List (List Field)) (entry : List Field) (matched : ℕ) (change : Change) (changes : List Change) where
  deletes_there : done_to (with_only documents) (delete_one entry) ≡ Ok (record { matched = matched; changes = change ∷ changes }) → length (change ∷ changes) ≡ matched → with_changes documents (change ∷ changes) ≡ after
      → with_next t_c true (nothing_written (holding documents).catalog.namespaces) (delete_one entry) ≡ wrote 1 (0 + matched) [] (holding after).catalog.namespaces
  deletes_there does many leaves =
      looked_at t_c true (nothing_written (holding documents).catalog.namespaces) documents (put_there documents) refl (delete_one entry) _ does
      ∙ ap (λ (n : ℕ). wrote_so 1 (0 + matched) (0 + n) [] (apply t_c (change ∷ changes) (holding documents).catalog.namespaces)) many
      ∙ ap (wrote 1 (0 + matched) [])
      (ap (λ (ds : List (List Field)). with_documents t_c (with_changes ds (change ∷ changes)) (holding documents).catalog.namespaces) (put_in documents)
      ∙ ap (λ (ds : List (List Field)). with_documents t_c ds (holding documents).catalog.namespaces) leaves ∙ put_twice after documents empty_store_state.catalog.namespaces)

-- the document with this number as its `_id` is removed
abbrev goes : ℕ → Change
goes id = gone (id_key (only id))

-- a delete; the replies of all deletes are built as its reply is
abbrev no_entries : asking.Write
no_entries = record { kind = Delete; namespace = t_c; entries = []; ordered = true }

pub deletes : DeleteExamples
unfolding filter_in conditions_in operators_in member_named operator_named matches matches_member meets_all meets path_of index_of whole leaves
deletes = record {
  first = λ session. ap (write_answer (holding three) (write_by no_entries)) (deletes_there three (only 2 ∷ only 3 ∷ []) (deletion [] 1) 1 (goes 1) [] refl refl refl);
  greater = λ session. ap (write_answer (holding three) (write_by no_entries)) (deletes_there three (only 1 ∷ []) (deletion (one_field (codes "_id") (document_of (one_field (codes "$gt") (number 1)))) 0) 2 (goes 2) (goes 3 ∷ []) refl refl refl);
  all = λ session. ap (write_answer (holding three) (write_by no_entries)) (deletes_there three [] (deletion [] 0) 3 (goes 1) (goes 2 ∷ goes 3 ∷ []) refl refl refl);
  nothing = λ session. ap (write_answer empty_store_state (write_by no_entries)) (looked_at t_c true (nothing_written empty_store_state.catalog.namespaces) [] (nothing_there t_c) refl (delete_one (deletion [] 0)) (Ok (record { matched = 0; changes = [] })) refl);
  no_limit = λ session. refl;
  two = λ session. refl;
}

-- the value under a meets these conditions
abbrev at_a : Conditions → Members
at_a conditions = more_members (at_path (codes "a" ∷ []) conditions) no_members

-- a find in c
found_in : (documents : List (List Field)) (form : Members) (parts : List Part) (skip limit session : ℕ)
    → answered (holding documents) (on_cursors (holding documents) (first_batch session t_c 101 false (scan form parts skip limit (documents_of t_c (holding documents).catalog.namespaces)) no_cursors))
    ≡ answered (holding documents) (on_cursors (holding documents) (first_batch session t_c 101 false (scan form parts skip limit documents) no_cursors))
found_in documents form parts skip limit session =
    ap (λ (ds : List (List Field)). answered (holding documents) (on_cursors (holding documents) (first_batch session t_c 101 false (scan form parts skip limit ds) no_cursors))) (put_in documents)

pub finds : FindExamples
unfolding filter_in conditions_in operators_in member_named operator_named matches matches_member meets_all meets path_of index_of whole leaves sort_key stable digits framed element_spelling payload counted batch
finds = record {
  between = λ session. found_in bounded (at_a (more_conditions (in_range Above (number 1)) (more_conditions (in_range Below (number 3)) no_conditions))) [] 0 0 session;
  null_or_missing = λ session. found_in nulls (at_a (more_conditions (equal null) no_conditions)) [] 0 0 session;
  ascending = λ session. found_in keyed_documents no_members ((codes "a" ∷ [], Ascending) ∷ []) 0 0 session;
  descending = λ session. found_in keyed_documents no_members ((codes "a" ∷ [], Descending) ∷ []) 0 0 session;
  window = λ session. found_in three no_members [] 1 1 session;
}
