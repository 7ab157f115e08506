-- The marks of views after changes, and after the statements of a write.
use Rattle.std.proofs.Common.{◌≡◌, ◌⊎◌, ℕ, suc, Bool, true, false, cond, not, List, [], ◌∷◌, ◌++◌, length, take, Result, Err, refl, sym, ap, subst, ◌∙◌, inl, inr}
use Rattle.dv_catalog.specs.Changes.{Change, Effect, Statement}
use Rattle.dv_catalog.specs.Marks.{AreMarkedBy, AreMarkedSo, ArePartlyNamed, ArePartlyRead, IsPartlyRead, Mark, Marked, Marks, all_counted, mark_read, marks_counted, marks_named, marks_read, marks_without, shares_told}
use Rattle.dv_catalog.specs.State.{Namespaces, has_name, lists_of, without_view}
use Rattle.dv_catalog.specs.Inner.Parts.{StandBy}
use Rattle.dv_catalog.specs.declared.failure.Stopped.{Stopped}
use Rattle.dv_catalog.specs.Inner.MarkLaws.{nothing_counted, one_unmarked}
use Rattle.dv_refusal.specs.declared.refusal.Refusal.{Refusal}
use Rattle.dv_pipe.specs.Stages.{Lists}
use Rattle.dv_views.specs.Flow.{Share, shares}
use Rattle.dv_views.specs.Forms.{ViewForm, is_name_among, needed}
use Rattle.dv_core.specs.Marks.{AreMarkedByCut, AreMarkedByEach, due_changes, marks_where_read, marks_written}
use Rattle.dv_core.specs.State.{State}
use Rattle.dv_core.specs.Statements.{AreCut, Written, is_due, next_changes, nothing_written, with_all, with_next}

-- ---- changes

-- the marks if memory runs out for no view
counted_so : (all : List Share) (marks : Marks) → AreMarkedSo all marks (all_counted all marks)
counted_so [] marks = refl
counted_so (share ∷ rest) [] = refl
counted_so (share ∷ rest) (mark ∷ marks) = (inl refl, counted_so rest marks)

so_length : (all : List Share) (before after : Marks) → AreMarkedSo all before after → length after ≡ length before
so_length [] before after marked = ap length marked
so_length (share ∷ rest) [] after marked = ap length marked
so_length (share ∷ rest) (mark ∷ before) [] marked = absurd marked
so_length (share ∷ rest) (mark ∷ before) (now ∷ after) marked = ap suc (so_length rest before after marked.1)

module _ (namespace : List ℕ) (lists : Lists) where
  module _ (changes : List Change) (views : List ViewForm) where
    pub counted_marked : (marks : Marks) → AreMarkedBy namespace changes lists views marks (marks_counted namespace changes lists views marks)
    counted_marked marks = counted_so (shares_told namespace changes lists views) marks

    pub marked_length : (before after : Marks) → AreMarkedBy namespace changes lists views before after → length after ≡ length before
    marked_length before after marked = so_length (shares_told namespace changes lists views) before after marked

  pub none_marked : (views : List ViewForm) (marks : Marks) → AreMarkedBy namespace [] lists views marks marks
  unfolding shares
  none_marked [] marks = refl
  none_marked (v ∷ views) [] = refl
  none_marked (v ∷ views) (mark ∷ marks) = (inl (sym (nothing_counted mark)), none_marked views marks)

  pub none_changed : (views : List ViewForm) (before after : Marks) → AreMarkedBy namespace [] lists views before after → after ≡ before
  unfolding shares
  none_changed [] before after marked = marked
  none_changed (v ∷ views) [] after marked = marked
  none_changed (v ∷ views) (mark ∷ before) [] marked = absurd marked
  none_changed (v ∷ views) (mark ∷ before) (now ∷ after) marked = λ i. one_unmarked mark now marked.0 i ∷ none_changed views before after marked.1 i

-- if there is no view
pub no_view_marked : (namespace : List ℕ) (changes : List Change) (lists : Lists) → AreMarkedBy namespace changes lists [] [] []
unfolding shares
no_view_marked namespace [] lists = refl
no_view_marked namespace (change ∷ changes) lists = refl

-- after a statement that stopped before its first change
pub unmade_stands : {B : Type 0} (namespace : List ℕ) (does : Result Effect Refusal) (old : Marked) (result : Result B Stopped) (stopped : Stopped) → result ≡ Err stopped → stopped.done ≡ 0 → StandBy namespace does old result old.marks
unmade_stands namespace does old result stopped is none =
    rw (is, none) (none_marked namespace (lists_of old.state.namespaces) old.state.views old.marks)

-- ---- the statements of a write

module _ (namespace : List ℕ) (ordered : Bool) (views : List ViewForm) where
  pub written_marked : (so_far : Written) (statements : List Statement) (marks : Marks) → AreMarkedByEach namespace ordered views so_far statements marks (marks_written namespace ordered views so_far statements marks)
  written_marked so_far [] marks = refl
  written_marked so_far (statement ∷ statements) marks =
      let changes : List Change = due_changes namespace ordered views so_far statement in
      let mid : Marks = marks_counted namespace changes (lists_of so_far.namespaces) views marks in
      (mid, counted_marked namespace (lists_of so_far.namespaces) changes views marks, written_marked (with_next namespace ordered so_far statement) statements mid)

  pub each_length : (so_far : Written) (statements : List Statement) (before after : Marks) → AreMarkedByEach namespace ordered views so_far statements before after → length after ≡ length before
  each_length so_far [] before after marked = ap length marked
  each_length so_far (statement ∷ statements) before after (mid, here, rest) =
      each_length (with_next namespace ordered so_far statement) statements mid after rest
      ∙ marked_length namespace (lists_of so_far.namespaces) (due_changes namespace ordered views so_far statement) views before mid here

  pub cut_length : (statements : List Statement) (old : Namespaces) (left : Written) (cut : AreCut namespace ordered statements old left) (before after : Marks)
      → AreMarkedByCut namespace ordered views statements old left cut before after → length after ≡ length before
  cut_length statements old left cut before after (mid, each, here) =
      let so_far : Written = with_all namespace ordered (nothing_written old) cut.before in
      marked_length namespace (lists_of so_far.namespaces) (take cut.made (next_changes namespace ordered so_far cut.statement)) views mid after here
      ∙ each_length (nothing_written old) cut.before before mid each

  -- the first statements, and those after them
  pub each_append : (so_far : Written) (front behind : List Statement) (before mid after : Marks) → AreMarkedByEach namespace ordered views so_far front before mid
      → AreMarkedByEach namespace ordered views (with_all namespace ordered so_far front) behind mid after → AreMarkedByEach namespace ordered views so_far (front ++ behind) before after
  each_append so_far [] behind before mid after is rest = subst (λ (m : Marks). AreMarkedByEach namespace ordered views so_far behind m after) is rest
  each_append so_far (statement ∷ front) behind before mid after (one, here, each) rest =
      (one, here, each_append (with_next namespace ordered so_far statement) front behind one mid after each rest)

  -- if no statement is due, the rest leave each mark unchanged
  not_due : (b : Bool) → b ≡ false → (so_far : Written) (changes : List Change) (marks : Marks) → AreMarkedBy namespace (cond b changes []) (lists_of so_far.namespaces) views marks marks
  not_due true stopped so_far changes marks = absurd cc
  not_due false stopped so_far changes marks = none_marked namespace (lists_of so_far.namespaces) views marks

  pub each_stopped : (so_far : Written) (statements : List Statement) (marks : Marks) → is_due ordered so_far.errors ≡ false → AreMarkedByEach namespace ordered views so_far statements marks marks
  each_stopped so_far [] marks stopped = refl
  each_stopped so_far (statement ∷ statements) marks stopped = (
    marks,
    not_due (is_due ordered so_far.errors) stopped so_far (next_changes namespace ordered so_far statement) marks,
    rw stopped (each_stopped so_far statements marks stopped),
  )

-- ---- views that are read

module _ (names : List (List ℕ)) where
  named_length : (views : List ViewForm) (marks : Marks) → length (marks_named names views marks) ≡ length marks
  named_length [] marks = refl
  named_length (v ∷ views) [] = refl
  named_length (v ∷ views) (mark ∷ marks) = ap suc (named_length views marks)

  some_length : (views : List ViewForm) (before after : Marks) → ArePartlyNamed names views before after → length after ≡ length before
  some_length [] before after some = ap length some
  some_length (v ∷ views) [] after some = ap length some
  some_length (v ∷ views) (mark ∷ before) [] some = absurd some
  some_length (v ∷ views) (mark ∷ before) (now ∷ after) some = ap suc (some_length views before after some.1)

  -- all of them may be recomputed
  all_some : (views : List ViewForm) (marks : Marks) → ArePartlyNamed names views marks (marks_named names views marks)
  all_some [] marks = refl
  all_some (v ∷ views) [] = refl
  all_some (v ∷ views) (mark ∷ marks) = (one (is_name_among v.name names) refl, all_some views marks)
    where
      one : (b : Bool) → is_name_among v.name names ≡ b → IsPartlyRead (is_name_among v.name names) mark (cond b (mark_read mark) mark)
      one true named = inr (named, refl)
      one false named = inl refl

module _ (names : List (List ℕ)) (views : List ViewForm) where
  pub read_length : (marks : Marks) → length (marks_read names views marks) ≡ length marks
  read_length marks = named_length (needed views names) views marks

  pub partly_length : (before after : Marks) → ArePartlyRead names views before after → length after ≡ length before
  partly_length before after some = some_length (needed views names) views before after some

  all_partly : (before after : Marks) → after ≡ marks_read names views before → ArePartlyRead names views before after
  all_partly before after read = subst (ArePartlyRead names views before) (sym read) (all_some (needed views names) views before)

-- after a command
pub where_read_length : (names : List (List ℕ)) (old : State) → length (marks_where_read names old) ≡ length old.marks
where_read_length [] old = refl
where_read_length (name ∷ names) old = read_length (name ∷ names) old.catalog.views old.marks

pub where_read : (names : List (List ℕ)) (old : State) (marks : Marks) → marks ≡ marks_where_read names old → (marks ≡ old.marks) ⊎ ArePartlyRead names old.catalog.views old.marks marks
where_read [] old marks read = inl read
where_read (name ∷ names) old marks read = inr (all_partly (name ∷ names) old.catalog.views old.marks marks read)

-- ---- views that are removed

without_one : (b : Bool) (v : ViewForm) (views : List ViewForm) (mark : Mark) (marks : Marks) → length marks ≡ length views → length (cond b marks (mark ∷ marks)) ≡ length (cond (not b) (v ∷ views) views)
without_one true v views mark marks same = same
without_one false v views mark marks same = ap suc same

pub without_length : (namespace : List ℕ) (views : List ViewForm) (marks : Marks) → length marks ≡ length views → length (marks_without namespace views marks) ≡ length (without_view namespace views)
without_length namespace [] marks same = same
without_length namespace (v ∷ views) [] same = absurd cc
without_length namespace (v ∷ views) (mark ∷ marks) same =
    without_one (has_name namespace v) v (without_view namespace views) mark (marks_without namespace views marks) (without_length namespace views marks (cc))
