-- The worked examples, computed: statement by statement, over the documents that each finds.
use Rattle.std.proofs.Common.{◌≡◌, ℕ, suc, ◌+◌, Bool, true, false, cond, List, [], ◌∷◌, ◌++◌, map, take, pos, Option, None, Result, Ok, Err, inl, inr, refl, sym, ap, ◌∙◌}
use Rattle.std.specs.Cmp.Lexicographic.{slice_cmp, nat_list_cmp_total}
use Rattle.std.specs.Prelude.{codes}
use Rattle.std.specs.FinMap as finite
use Rattle.std.specs.Ordering.{nat_cmp, eq_by_cmp}
use Rattle.dv_value.specs.Tree.{Tree, Field, int64, boolean}
use Rattle.dv_value.specs.Spelling.{framed, element_spelling, payload, counted}
use Rattle.dv_match.specs.Filter.{no_members}
use Rattle.dv_match.specs.Match.{matches}
use Rattle.dv_match.specs.Parsing.{filter_in}
use Rattle.dv_sort.specs.Sorting.{stable}
use Rattle.dv_command.specs.Asked.{Asked, asked_by}
use Rattle.dv_command.specs.Asked as asking
use Rattle.dv_command.specs.declared.asking.WriteKind.TheVariants.{Insert}
use Rattle.dv_command.specs.Replies.{document_of, write_error, cut_error, reply_of, refusal_reply}
use Rattle.dv_value.specs.Results.{◌>>=◌}
use Rattle.dv_refusal.specs.declared.refusal.Refusal.{Refusal}
use Rattle.dv_refusal.specs.declared.refusal.Refusal.TheVariants.{DuplicateKey, WantOfMemory}
use Rattle.dv_catalog.specs.Changes.{put, Effect, Statement, done_to, unless_it_breaks, with_put}
use Rattle.dv_core.specs.Inner.Examples.{only, one_field, number, holding, letters, InsertExamples, ReadExamples, RefusalExamples, WantExamples}
use Rattle.dv_core.specs.Find.{first_batch}
use Rattle.dv_core.specs.Marks.{AreMarkedByCut, AreMarkedForWant, due_changes}
use Rattle.dv_cursor.specs.Batch.{batch}
use Rattle.dv_catalog.specs.Scan.{scan}
use Rattle.dv_catalog.specs.State.{Collection, Standing, Namespaces, collection, collection_at, collection_of, documents_of, lists_of, with_documents}
use Rattle.dv_core.specs.State.{State, empty_store_state}
use Rattle.dv_core.specs.Statements.{Written, nothing_written, is_due, with_result, with_next, with_all, next_changes, cut, IsCutWrite}
use Rattle.dv_core.specs.Step.{Answer, answered, on_cursors, write_answer}
use Rattle.dv_catalog.specs.Inner.StateLaws.{same_namespaces}
use Rattle.dv_core.specs.Writes.{insert_one, write_by}
use Rattle.dv_core.proofs.Marking.{no_view_marked}
use Rattle.dv_index.specs.Indexed.{empty_indexed}

-- ---- the collection t.c

abbrev pub t_c : List ℕ
t_c = codes "t.c"

-- these documents, and the index that every collection has
abbrev pub with_only : List (List Field) → Collection
with_only documents = record empty_indexed { documents = documents }

pub nothing_there : (namespace : List ℕ) → collection_of namespace empty_store_state.catalog.namespaces ≡ with_only []
nothing_there namespace = ap collection_at (finite.get-empty (slice_cmp nat_cmp) namespace)

pub nothing_in : (namespace : List ℕ) → documents_of namespace empty_store_state.catalog.namespaces ≡ []
nothing_in namespace = ap (λ (c : Collection). c.documents) (nothing_there namespace)

collection_there : (documents : List (List Field)) (namespaces : Namespaces) → collection_of t_c (with_documents t_c documents namespaces) ≡ record (collection_of t_c namespaces) { documents = documents }
collection_there documents namespaces =
    ap collection_at (finite.get-insert nat_list_cmp_total namespaces t_c (collection (record (collection_of t_c namespaces) { documents = documents })) t_c)

pub put_there : (documents : List (List Field)) → collection_of t_c (holding documents).catalog.namespaces ≡ with_only documents
put_there documents = collection_there documents empty_store_state.catalog.namespaces ∙ ap (λ (c : Collection). record c { documents = documents }) (nothing_there t_c)

pub put_in : (documents : List (List Field)) → documents_of t_c (holding documents).catalog.namespaces ≡ documents
put_in documents = ap (λ (c : Collection). c.documents) (put_there documents)

same_put : (b : Bool) (now before : Option Standing) (x : Option Standing) → cond b now (cond b before x) ≡ cond b now x
same_put true now before x = refl
same_put false now before x = refl

-- documents that are put in the place of others
pub put_twice : (now before : List (List Field)) (namespaces : Namespaces) → with_documents t_c now (with_documents t_c before namespaces) ≡ with_documents t_c now namespaces
put_twice now before namespaces =
    ap (λ (c : Collection). finite.insert (with_documents t_c before namespaces) t_c (collection (record c { documents = now }))) (collection_there before namespaces)
    ∙ same_namespaces _ _ (λ q. simp (finite.get-insert {X = Standing} nat_list_cmp_total) (same_put (eq_by_cmp (slice_cmp nat_cmp) q t_c) _ _ _))

-- under u.c there is nothing
other_there : collection_of (codes "u.c") (holding (only 5 ∷ [])).catalog.namespaces ≡ with_only []
other_there =
    let none : finite.get (holding (only 5 ∷ [])).catalog.namespaces (codes "u.c") ≡ None =
    rw (finite.get-insert nat_list_cmp_total empty_store_state.catalog.namespaces t_c (collection (record (collection_of t_c empty_store_state.catalog.namespaces) { documents = only 5 ∷ [] })) (codes "u.c")) (finite.get-empty (slice_cmp nat_cmp) (codes "u.c")) in
    ap collection_at none

-- ---- one statement, by the documents that it finds

abbrev pub wrote_so : ℕ → ℕ → ℕ → List Tree → Namespaces → Written
wrote_so statements n changed errors namespaces = record { statements = statements; n = n; changed = changed; errors = errors; namespaces = namespaces }

-- statements that match as many documents as they change
abbrev pub wrote : ℕ → ℕ → List Tree → Namespaces → Written
wrote statements n errors namespaces = wrote_so statements n n errors namespaces

module _ (namespace : List ℕ) (ordered : Bool) (w : Written) (documents : List (List Field)) (are : collection_of namespace w.namespaces ≡ with_only documents) (due : is_due ordered w.errors ≡ true) where
  pub looked_at : (statement : Statement) (result : Result Effect Refusal) → done_to (with_only documents) statement ≡ result → with_next namespace ordered w statement ≡ with_result namespace ordered w result
  looked_at statement result gives =
      (λ i. cond (due i) (with_result namespace ordered w (done_to (are i) statement)) w) ∙ ap (with_result namespace ordered w) gives

  -- the document is put among the others
  puts : (d stored : List Field) (after : List (List Field)) → insert_one d documents ≡ Ok (record { matched = 1; changes = put stored ∷ [] }) → with_put stored documents ≡ after
      → with_next namespace ordered w (insert_one d) ≡ wrote_so (suc w.statements) (w.n + 1) (w.changed + 1) w.errors (with_documents namespace after w.namespaces)
  puts d stored after gives leaves =
      looked_at (insert_one d) (Ok (record { matched = 1; changes = put stored ∷ [] })) (ap (λ (r : Result Effect Refusal). r >>= unless_it_breaks (with_only documents)) gives)
      ∙ ap (λ (ds : List (List Field)). wrote_so (suc w.statements) (w.n + 1) (w.changed + 1) w.errors (with_documents namespace ds w.namespaces))
      (ap (λ (c : Collection). with_put stored c.documents) are ∙ leaves)

  -- the document is refused
  refuses : (d : List Field) (refusal : Refusal) → insert_one d documents ≡ Err refusal
      → with_next namespace ordered w (insert_one d) ≡ wrote_so (suc w.statements) w.n w.changed (w.errors ++ document_of (write_error w.statements refusal) ∷ []) w.namespaces
  refuses d refusal gives = looked_at (insert_one d) (Err refusal) (ap (λ (r : Result Effect Refusal). r >>= unless_it_breaks (with_only documents)) gives)

abbrev after : Bool → List (List Field) → Written → Written
after ordered documents w = with_all t_c ordered w (map insert_one documents)

abbrev nothing : Written
nothing = nothing_written empty_store_state.catalog.namespaces

abbrev duplicate : Tree
duplicate = document_of (write_error 1 DuplicateKey)

put_first : (ordered : Bool) → with_next t_c ordered nothing (insert_one (only 2)) ≡ wrote 1 1 [] (holding (only 2 ∷ [])).catalog.namespaces
unfolding framed element_spelling payload counted
put_first ordered = puts t_c ordered nothing [] (nothing_there t_c) refl (only 2) (only 2) (only 2 ∷ []) refl refl

put_again : (ordered : Bool) → with_next t_c ordered (wrote 1 1 [] (holding (only 2 ∷ [])).catalog.namespaces) (insert_one (only 2)) ≡ wrote 2 1 (duplicate ∷ []) (holding (only 2 ∷ [])).catalog.namespaces
unfolding framed element_spelling payload counted
put_again ordered = refuses t_c ordered (wrote 1 1 [] (holding (only 2 ∷ [])).catalog.namespaces) (only 2 ∷ []) (put_there (only 2 ∷ [])) refl (only 2) DuplicateKey refl

put_third : with_next t_c false (wrote 2 1 (duplicate ∷ []) (holding (only 2 ∷ [])).catalog.namespaces) (insert_one (only 1)) ≡ wrote 3 2 (duplicate ∷ []) (holding (only 1 ∷ only 2 ∷ [])).catalog.namespaces
unfolding framed element_spelling payload counted
put_third =
    puts t_c false (wrote 2 1 (duplicate ∷ []) (holding (only 2 ∷ [])).catalog.namespaces) (only 2 ∷ []) (put_there (only 2 ∷ [])) refl (only 1) (only 1) (only 1 ∷ only 2 ∷ []) refl refl
    ∙ ap (wrote 3 2 (duplicate ∷ [])) (put_twice (only 1 ∷ only 2 ∷ []) (only 2 ∷ []) empty_store_state.catalog.namespaces)

-- an insert; the replies of all inserts are built as its reply is
abbrev two : asking.Write
two = record { kind = Insert; namespace = t_c; entries = only 5 ∷ only 6 ∷ []; ordered = true }

-- ---- the examples

abbrev falsely : List Field
falsely = one_field (codes "_id") (boolean false)

abbrev moved : List Field
moved = (codes "_id", number 2) ∷ (codes "a", number 1) ∷ []

pub inserts : InsertExamples
unfolding framed element_spelling payload counted
inserts = record {
  first = λ session. ap (write_answer empty_store_state (write_by two)) (puts t_c true nothing [] (nothing_there t_c) refl (only 5) (only 5) (only 5 ∷ []) refl refl);
  equal = λ session.
      ap (write_answer (holding (only 5 ∷ [])) (write_by two))
      (refuses t_c true (nothing_written (holding (only 5 ∷ [])).catalog.namespaces) (only 5 ∷ []) (put_there (only 5 ∷ [])) refl ((codes "_id", int64 (pos 5)) ∷ []) DuplicateKey refl);
  ordered = λ session. ap (write_answer empty_store_state (write_by two)) (ap (after true (only 2 ∷ only 1 ∷ [])) (put_first true) ∙ ap (after true (only 1 ∷ [])) (put_again true));
  unordered = λ session. ap (write_answer empty_store_state (write_by two)) (ap (after false (only 2 ∷ only 1 ∷ [])) (put_first false) ∙ ap (after false (only 1 ∷ [])) (put_again false) ∙ put_third);
  id_behind = λ session. ap (write_answer empty_store_state (write_by two)) (puts t_c true nothing [] (nothing_there t_c) refl ((codes "a", number 1) ∷ (codes "_id", number 2) ∷ []) moved (moved ∷ []) refl refl);
  no_id = λ session. refl;
  unfit = λ session. refl;
  elsewhere = λ session. ap (write_answer (holding (only 5 ∷ [])) (write_by two)) (puts (codes "u.c") true (nothing_written (holding (only 5 ∷ [])).catalog.namespaces) [] other_there refl (only 5) (only 5) (only 5 ∷ []) refl refl);
  dotted = λ session. refl;
  classes = λ session.
      ap (write_answer empty_store_state (write_by two))
      (ap (after true (only 1 ∷ [])) (puts t_c true nothing [] (nothing_there t_c) refl falsely falsely (falsely ∷ []) refl refl)
      ∙ puts t_c true (wrote 1 1 [] (holding (falsely ∷ [])).catalog.namespaces) (falsely ∷ []) (put_there (falsely ∷ [])) refl (only 1) (only 1) (only 1 ∷ falsely ∷ []) refl refl
      ∙ ap (wrote 2 2 []) (put_twice (only 1 ∷ falsely ∷ []) (falsely ∷ []) empty_store_state.catalog.namespaces));
}

-- a find of all documents
finds : (old : State) (namespace : List ℕ) (documents : List (List Field)) (session : ℕ) → documents_of namespace old.catalog.namespaces ≡ documents
    → answered old (on_cursors old (first_batch session namespace 101 false (scan no_members [] 0 0 (documents_of namespace old.catalog.namespaces)) old.cursors)) ≡ answered old (on_cursors old (first_batch session namespace 101 false (scan no_members [] 0 0 documents) old.cursors))
finds old namespace documents session are = ap (λ (ds : List (List Field)). answered old (on_cursors old (first_batch session namespace 101 false (scan no_members [] 0 0 ds) old.cursors))) are

pub reads : ReadExamples
unfolding framed element_spelling payload counted filter_in matches stable batch
reads = record {
  greeted = λ state session. refl;
  pinged = λ state session. refl;
  found = λ session. finds (holding (only 5 ∷ only 6 ∷ [])) t_c (only 5 ∷ only 6 ∷ []) session (put_in (only 5 ∷ only 6 ∷ []));
  not_found = λ session. finds empty_store_state t_c [] session (nothing_in t_c);
}

pub refusals : RefusalExamples
unfolding filter_in matches stable batch
refusals = record {
  no_database = λ state session. refl;
  dotted_database = λ state session. refl;
  unknown_command = λ state session. refl;
  no_documents = λ state session. refl;
  no_document = λ state session. refl;
  no_collection = λ state session. refl;
  typed_database = λ state session. refl;
  database_first = λ state session. refl;
  typed_ordered = λ state session. refl;
  unknown_field = λ state session. refl;
  projected = λ state session. refl;
  unreadable = λ state session. refl;
  listed = λ state session list. refl;
  zero_in_name = λ state session. refl;
  longest_namespace = λ session. finds empty_store_state (codes "t." ++ letters 118) [] session (nothing_in (codes "t." ++ letters 118));
  namespace_too_long = λ state session. refl;
}

-- ---- running out of memory

put_five : with_next t_c true nothing (insert_one (only 5)) ≡ wrote 1 1 [] (holding (only 5 ∷ [])).catalog.namespaces
unfolding framed element_spelling payload counted
put_five = puts t_c true nothing [] (nothing_there t_c) refl (only 5) (only 5) (only 5 ∷ []) refl refl

abbrev left : Written
left = wrote 2 1 (document_of (cut_error 1 0) ∷ []) (holding (only 5 ∷ [])).catalog.namespaces

cut_second : IsCutWrite (write_by two) empty_store_state.catalog.namespaces left
cut_second = record {
  before = insert_one (only 5) ∷ [];
  statement = insert_one (only 6);
  behind = [];
  made = 0;
  stands = refl;
  reached = ap (λ (w : Written). is_due true w.errors) put_five;
  fewer = inl refl;
  left_so = ap (λ (w : Written). cut t_c true 0 w (insert_one (only 6))) (sym put_five);
}

-- the marks may stay unchanged
left_marked : (state : State) (asked : Result Asked Refusal) → AreMarkedForWant state asked state.marks
left_marked state (Ok asked) = inl refl
left_marked state (Err refusal) = refl

no_marks : AreMarkedByCut t_c true [] (write_by two).statements empty_store_state.catalog.namespaces left cut_second [] []
unfolding cut_second
no_marks =
    let five = with_all t_c true nothing (insert_one (only 5) ∷ []) in (
      [],
      ([], no_view_marked t_c (due_changes t_c true [] nothing (insert_one (only 5))) (lists_of nothing.namespaces), refl),
      no_view_marked t_c (take 0 (next_changes t_c true five (insert_one (only 6)))) (lists_of five.namespaces),
    )

pub wants : WantExamples
wants = record {
  refused = λ state session command. inl (refl, left_marked state (asked_by command));
  cut = λ session. inr (refl, (left, cut_second, refl, no_marks));
  untold = λ session. inr (write_answer empty_store_state (write_by two) left, inr (refl, (left, cut_second, refl, no_marks)), refl);
  pinged = λ state new session is. let replies : reply_of [] ≡ refusal_reply WantOfMemory = ap (λ (a : Answer). a.reply) is.0 in cc;
}
