-- The worked examples of views, computed.
use Rattle.std.proofs.Common.{◌≡◌, ◌||◌, ℕ, Bool, true, false, cond, if◌then◌else◌, List, [], ◌∷◌, Option, Some, None, Result, Ok, Err, is_some, length, take, refl, sym, ap, ◌∙◌}
use Rattle.std.specs.Cmp.Lexicographic.{slice_cmp, nat_list_cmp_total}
use Rattle.std.specs.FinMap as finite
use Rattle.std.specs.Ordering.{nat_cmp}
use Rattle.std.specs.Prelude.{codes}
use Rattle.std.specs.Str.{bytes_eq}
use Rattle.dv_value.specs.Spelling.{framed, element_spelling, payload, counted}
use Rattle.dv_value.specs.Tree.{Field}
use Rattle.dv_match.specs.Filter.{no_members}
use Rattle.dv_match.specs.Match.{matches}
use Rattle.dv_candidates.specs.Candidates.{whole}
use Rattle.dv_path.specs.SortKey.{sort_key}
use Rattle.dv_views.specs.Flow.{Share, shares}
use Rattle.dv_catalog.specs.Marks.{Marks, all_counted, live, marks_counted, stale}
use Rattle.dv_catalog.specs.Changes.{Change, changes_of, done_to, put}
use Rattle.dv_core.specs.Statements.{next_changes, nothing_written}
use Rattle.dv_core.specs.Writes.{insert_one}
use Rattle.dv_views.specs.Placed.{stage_at}
use Rattle.dv_match.specs.Parsing.{filter_in}
use Rattle.dv_pipe.specs.StageParsing.{pipeline_of}
use Rattle.dv_pipe.specs.Stages.{Lists, stage, through}
use Rattle.dv_sort.specs.Sorting.{stable}
use Rattle.dv_catalog.specs.Scan.{scan}
use Rattle.dv_catalog.specs.State.{Collection, Standing, Namespaces, collection, collection_of, lists_of, documents_of, is_collection, is_view, without_view}
use Rattle.dv_catalog.specs.State as stored
use Rattle.dv_core.specs.State.{State, empty_store_state}
use Rattle.dv_catalog.specs.Inner.StateLaws.{same_namespaces, get-insert, get-remove}
use Rattle.dv_catalog.specs.Views.{created, dropped, made, reads_name}
use Rattle.dv_command.specs.Asked.{ViewOn}
use Rattle.dv_command.specs.Replies.{reply_of, drop_reply, view_stats_reply}
use Rattle.dv_refusal.specs.declared.refusal.Refusal.{Refusal}
use Rattle.dv_refusal.specs.declared.refusal.Refusal.TheVariants.{NamespaceExists, NamespaceNotFound, ReadByView}
use Rattle.dv_path.specs.declared.direction.Direction.TheVariants.{Descending}
use Rattle.dv_core.specs.Inner.Examples.{chained, holding, limiting, nesting, only, two, viewing, MarkExamples, ViewExamples}
use Rattle.dv_core.specs.Find.{first_batch}
use Rattle.dv_cursor.specs.Batch.{batch}
use Rattle.dv_core.specs.Step.{answered, on_catalog, on_cursors, read_answer, replying}
use Rattle.dv_core.proofs.Worked.{t_c, nothing_in, nothing_there, put_in}

-- ---- what is under each namespace

abbrev two_standing : Standing
two_standing = collection (record (collection_of t_c empty_store_state.catalog.namespaces) { documents = two })

none_there : (namespace : List ℕ) → is_collection namespace empty_store_state.catalog.namespaces ≡ false
none_there namespace = ap is_some (finite.get-empty (slice_cmp nat_cmp) namespace)

two_there : is_collection t_c (holding two).catalog.namespaces ≡ true
two_there = ap is_some (finite.get-insert nat_list_cmp_total empty_store_state.catalog.namespaces t_c two_standing t_c)

same_gone : (b : Bool) (there : Option Standing) → cond b None (cond b there None) ≡ None
same_gone true there = refl
same_gone false there = refl

-- the collection that was put is removed again
put_and_gone : finite.remove (holding two).catalog.namespaces t_c ≡ empty_store_state.catalog.namespaces
put_and_gone =
    same_namespaces _ _ (λ q. get-remove (holding two).catalog.namespaces t_c q
    ∙ ap (cond (bytes_eq t_c q) None) (get-insert empty_store_state.catalog.namespaces t_c two_standing q ∙ ap (cond (bytes_eq t_c q) (Some two_standing)) (finite.get-empty (slice_cmp nat_cmp) q))
    ∙ same_gone (bytes_eq t_c q) (Some two_standing) ∙ sym (finite.get-empty (slice_cmp nat_cmp) q))

-- ---- commands, by whether there is a collection

module _ (old : State) (namespace : List ℕ) (b : Bool) (there : is_collection namespace old.catalog.namespaces ≡ b) where
  creates : (view : Option ViewOn) → answered old (on_catalog old (replying (reply_of []) (created namespace view old.catalog)))
      ≡ answered old (on_catalog old (replying (reply_of []) (if b || is_view namespace old.catalog.views then Err NamespaceExists else made namespace view old.catalog)))
  creates view = ap (λ (c : Bool). answered old (on_catalog old (replying (reply_of []) (if c || is_view namespace old.catalog.views then Err NamespaceExists else made namespace view old.catalog)))) there

  abbrev left_by : Bool → Result stored.State Refusal
  left_by c =
      if c then Ok (record old.catalog { namespaces = finite.remove old.catalog.namespaces namespace })
      else if is_view namespace old.catalog.views then (if reads_name old.catalog.views namespace then Err ReadByView else Ok (record old.catalog { views = without_view namespace old.catalog.views }))
      else Err NamespaceNotFound

  drops : answered old (on_catalog old (replying (drop_reply namespace) (dropped namespace old.catalog))) ≡ answered old (on_catalog old (replying (drop_reply namespace) (left_by b)))
  drops = ap (λ (c : Bool). answered old (on_catalog old (replying (drop_reply namespace) (left_by c)))) there

-- a view without stages
abbrev on : List ℕ → Option ViewOn
on source = Some (record { source = source; stages = [] })

-- the rows of a view over the documents of c, in the replies to a find and to an aggregate without stages
module _ (name : List ℕ) (makes : List (List Field) → List (List Field)) (old : State) (documents : List (List Field)) (session : ℕ) (are : documents_of t_c old.catalog.namespaces ≡ documents) where
  shows : answered old (on_cursors old (first_batch session name 101 false (scan no_members [] 0 0 (makes (documents_of t_c old.catalog.namespaces))) old.cursors))
      ≡ answered old (on_cursors old (first_batch session name 101 false (scan no_members [] 0 0 (makes documents)) old.cursors))
  shows = ap (λ (ds : List (List Field)). answered old (on_cursors old (first_batch session name 101 false (scan no_members [] 0 0 (makes ds)) old.cursors))) are

  shows_all : answered old (on_cursors old (first_batch session name 101 false (makes (documents_of t_c old.catalog.namespaces)) old.cursors)) ≡ answered old (on_cursors old (first_batch session name 101 false (makes documents) old.cursors))
  shows_all = ap (λ (ds : List (List Field)). answered old (on_cursors old (first_batch session name 101 false (makes ds) old.cursors))) are

abbrev all_of : List (List Field) → List (List Field)
all_of documents = documents

abbrev greatest_of : List (List Field) → List (List Field)
greatest_of documents = take 1 (stable ((codes "_id" ∷ [], Descending) ∷ []) documents)

abbrev bare : State
bare = viewing empty_store_state

abbrev full : State
full = viewing (holding two)

pub views : ViewExamples
unfolding framed element_spelling payload counted filter_in matches stable sort_key whole pipeline_of through stage batch
views = record {
  created = λ session. creates empty_store_state (codes "t.v") false (none_there (codes "t.v")) (on t_c);
  read = λ session. creates bare t_c false (none_there t_c) (on (codes "t.d"));
  collection = λ session. creates bare t_c false (none_there t_c) None;
  itself = λ session. creates bare (codes "t.w") false (none_there (codes "t.w")) (on (codes "t.w"));
  over_view = λ session. creates bare (codes "t.w") false (none_there (codes "t.w")) (on (codes "t.v"));
  ninth = λ session. creates (chained empty_store_state) (codes "t.9") false (none_there (codes "t.9")) (on (codes "t.8"));
  again = λ session. creates bare (codes "t.v") false (none_there (codes "t.v")) (on t_c);
  collection_again = λ session. creates (holding two) t_c true two_there None;
  written = λ session. refl;
  empty = λ session. shows (codes "t.v") all_of bare [] session (nothing_in t_c);
  found = λ session. shows (codes "t.v") all_of full two session (put_in two);
  aggregated = λ session. shows_all (codes "t.v") all_of full two session (put_in two);
  nested = λ session. shows (codes "t.w") greatest_of (nesting (holding two)) two session (put_in two);
  read_dropped = λ session. drops (nesting empty_store_state) (codes "t.v") false (none_there (codes "t.v"));
  source_dropped = λ session. drops full t_c true two_there ∙ ap (λ (ns : Namespaces). answered full (on_catalog full (replying (drop_reply t_c) (Ok (record full.catalog { namespaces = ns }))))) put_and_gone;
  dropped = λ session. drops bare (codes "t.v") false (none_there (codes "t.v"));
  nothing_there = λ session. drops empty_store_state (codes "t.v") false (none_there (codes "t.v"));
}

-- ---- the marks of the views

-- a stale view counts nothing of its share
stale_counted : (all : List Share) → all_counted all (stale ∷ []) ≡ stale ∷ []
stale_counted [] = refl
stale_counted (share ∷ []) = refl
stale_counted (share ∷ other ∷ rest) = refl

-- a document is inserted where there is none; the change passes through both views
five_put : next_changes t_c true (nothing_written empty_store_state.catalog.namespaces) (insert_one (only 5)) ≡ put (only 5) ∷ []
unfolding payload framed element_spelling
five_put = ap (λ (c : Collection). changes_of (done_to c (insert_one (only 5)))) (nothing_there t_c) ∙ refl

abbrev counted_behind : List Change → Lists → Marks
counted_behind changes lists = marks_counted t_c changes lists (limiting empty_store_state).catalog.views (live 0 ∷ live 0 ∷ [])

five_passed : counted_behind (put (only 5) ∷ []) (λ name. []) ≡ live 2 ∷ live 2 ∷ []
unfolding shares stage_at
five_passed = refl

five_counted : counted_behind (next_changes t_c true (nothing_written empty_store_state.catalog.namespaces) (insert_one (only 5))) (lists_of empty_store_state.catalog.namespaces) ≡ live 2 ∷ live 2 ∷ []
five_counted = (λ i. counted_behind (five_put i) (λ name. nothing_in name i)) ∙ five_passed

pub marks : MarkExamples
unfolding framed element_spelling payload counted filter_in pipeline_of through
marks = record {
  told_live = λ session. ap (λ (rows : List (List Field)). answered full (read_answer full (Ok (view_stats_reply true (length rows) 0)))) (put_in two);
  told_stale = λ session. refl;
  no_view = λ session. refl;
  created = rw (none_there (codes "t.v")) refl;
  dropped = rw (none_there (codes "t.v")) refl;
  read = refl;
  aggregated = refl;
  source_read = refl;
  nested = refl;
  below = refl;
  created_over = rw (none_there (codes "t.w")) refl;
  passed = five_counted;
  written = stale_counted _;
}
