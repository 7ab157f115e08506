-- The marks of views after a step that leaves all of them live: each has counted the step's work.
use Rattle.std.proofs.Common.{◌≡◌, ℕ, Bool, true, false, List, [], ◌∷◌, ◌++◌, Option, Some, None, Result, Ok, Err, refl, ap, ap₂, subst, ◌∙◌, inl, inr, if◌then◌else◌}
use Rattle.dv_catalog.specs.Changes.{Statement}
use Rattle.dv_catalog.specs.Marks.{AreMarkedSo, AreMarkedWhere, IsMarkedBy, Mark, Marks, all_counted, all_gone, live, mark_counted, mark_read, marks_counted, marks_made, marks_named, marks_read, marks_without, shares_told, stale}
use Rattle.dv_catalog.specs.State.{documents_of, has_name, is_collection, is_view, lists_of}
use Rattle.dv_catalog.specs.State as stored
use Rattle.dv_catalog.specs.Views.{created, dropped}
use Rattle.dv_command.specs.Asked as asking
use Rattle.dv_command.specs.Asked.{Asked, ViewOn, create, drop}
use Rattle.dv_refusal.specs.declared.refusal.Refusal.{Refusal}
use Rattle.dv_core.specs.Marks.{AreMarkedAll, AreMarkedByEach, AreMarkedByWrite, AreMarkedWhereDropped, due_changes, marks_behind_all, marks_of_drop, marks_where_made, marks_where_read, marks_written, read_by}
use Rattle.dv_core.specs.State.{State}
use Rattle.dv_core.specs.Statements.{WriteSteps, Written, nothing_written, with_next}
use Rattle.dv_core.specs.Writes.{write_by}
use Rattle.dv_views.specs.Flow.{Share}
use Rattle.dv_views.specs.Forms.{ViewForm, is_name_among, names_read, needed}
use Rattle.dv_wire.specs.Standing.{AreAllLive}

-- ---- after changes

mark_is : (share : Share) (before after : Mark) → IsMarkedBy share before after → (after ≡ stale → ⊥) → after ≡ mark_counted share before
mark_is share before after (inl is) not_stale = is
mark_is share before after (inr struck) not_stale = absurd (not_stale struck.stale)

mark_was : (share : Share) (before after : Mark) → IsMarkedBy share before after → (after ≡ stale → ⊥) → before ≡ stale → ⊥
mark_was share before after marked not_stale was = not_stale (mark_is share before after marked not_stale ∙ ap (mark_counted share) was)

-- the views were live before, too, and have counted their shares
counted_by : (shares : List Share) (before after : Marks) → AreMarkedSo shares before after → AreAllLive after → AreAllLive before × (after ≡ all_counted shares before)
counted_by [] before after is are_live = (subst AreAllLive is are_live, is)
counted_by (share ∷ rest) [] after is are_live = (tt, is)
counted_by (share ∷ rest) (mark ∷ before) [] marked are_live = absurd marked
counted_by (share ∷ rest) (mark ∷ before) (now ∷ after) marked are_live =
    let others = counted_by rest before after marked.1 are_live.1 in (
      (mark_was share mark now marked.0 are_live.0, others.0),
      ap₂ (λ (m : Mark) (ms : Marks). m ∷ ms) (mark_is share mark now marked.0 are_live.0) others.1,
    )

-- ---- after statements

module _ (namespace : List ℕ) (ordered : Bool) (views : List ViewForm) where
  each_counted : (so_far : Written) (statements : List Statement) (before after : Marks) → AreMarkedByEach namespace ordered views so_far statements before after → AreAllLive after
      → AreAllLive before × (after ≡ marks_written namespace ordered views so_far statements before)
  each_counted so_far [] before after is are_live = (subst AreAllLive is are_live, is)
  each_counted so_far (statement ∷ statements) before after (mid, first, others) are_live =
      let next = with_next namespace ordered so_far statement in
      let later = each_counted next statements mid after others are_live in
      let here = counted_by (shares_told namespace (due_changes namespace ordered views so_far statement) (lists_of so_far.namespaces) views) before mid first later.0 in
      (here.0, later.1 ∙ ap (marks_written namespace ordered views next statements) here.1)

-- ---- after a command

module _ (old : State) (marks : Marks) (are_live : AreAllLive marks) where
  write_counted : (view : Bool) (write : WriteSteps) → AreMarkedByWrite view write old marks
      → marks ≡ (if view then old.marks else marks_written write.namespace write.ordered old.catalog.views (nothing_written old.catalog.namespaces) write.statements old.marks)
  write_counted true write is = is
  write_counted false write each = (each_counted write.namespace write.ordered old.catalog.views (nothing_written old.catalog.namespaces) write.statements old.marks marks each are_live).1

  where_counted : (collection : Bool) (namespace : List ℕ) (state : stored.State) → AreMarkedWhere collection namespace state old.marks marks
      → marks ≡ (if collection then marks_counted namespace (all_gone (documents_of namespace state.namespaces)) (lists_of state.namespaces) state.views old.marks else marks_without namespace state.views old.marks)
  where_counted true namespace state marked = (counted_by (shares_told namespace (all_gone (documents_of namespace state.namespaces)) (lists_of state.namespaces) state.views) old.marks marks marked are_live).1
  where_counted false namespace state is = is

  drop_counted : (result : Result stored.State Refusal) (namespace : List ℕ) → AreMarkedWhereDropped result namespace old marks
      → marks ≡ marks_where_made result (marks_of_drop namespace old.catalog old.marks) old.marks
  drop_counted (Ok state) namespace marked = where_counted (is_collection namespace old.catalog.namespaces) namespace old.catalog marked
  drop_counted (Err refusal) namespace is = is

  pub marks_are : (asked : Result Asked Refusal) → AreMarkedAll old asked marks → marks ≡ marks_behind_all old asked
  marks_are (Ok (asking.write asked)) marked = write_counted (is_view asked.namespace old.catalog.views) (write_by asked) marked
  marks_are (Ok (drop asked)) marked = drop_counted (dropped asked.namespace old.catalog) asked.namespace marked
  marks_are (Ok asked) is = is
  marks_are (Err refusal) is = is

-- ---- views that are live stay so, if each counts

live_mark : (share : Share) (mark : Mark) → (mark ≡ stale → ⊥) → mark_counted share mark ≡ stale → ⊥
live_mark share (live ticks) not_stale e = absurd cc
live_mark share stale not_stale e = not_stale refl

live_counted : (shares : List Share) (marks : Marks) → AreAllLive marks → AreAllLive (all_counted shares marks)
live_counted [] marks are_live = are_live
live_counted (share ∷ rest) [] are_live = tt
live_counted (share ∷ rest) (mark ∷ marks) are_live = (live_mark share mark are_live.0, live_counted rest marks are_live.1)

live_written : (namespace : List ℕ) (ordered : Bool) (views : List ViewForm) (so_far : Written) (statements : List Statement) (marks : Marks) → AreAllLive marks
    → AreAllLive (marks_written namespace ordered views so_far statements marks)
live_written namespace ordered views so_far [] marks are_live = are_live
live_written namespace ordered views so_far (statement ∷ statements) marks are_live =
    live_written namespace ordered views (with_next namespace ordered so_far statement) statements
    (marks_counted namespace (due_changes namespace ordered views so_far statement) (lists_of so_far.namespaces) views marks)
    (live_counted (shares_told namespace (due_changes namespace ordered views so_far statement) (lists_of so_far.namespaces) views) marks are_live)

live_one : (here : Bool) (mark : Mark) → (mark ≡ stale → ⊥) → (if here then mark_read mark else mark) ≡ stale → ⊥
live_one true (live ticks) not_stale e = absurd cc
live_one true stale not_stale e = not_stale refl
live_one false mark not_stale e = not_stale e

live_named : (names : List (List ℕ)) (views : List ViewForm) (marks : Marks) → AreAllLive marks → AreAllLive (marks_named names views marks)
live_named names [] marks are_live = are_live
live_named names (v ∷ views) [] are_live = tt
live_named names (v ∷ views) (mark ∷ marks) are_live = (live_one (is_name_among v.name names) mark are_live.0, live_named names views marks are_live.1)

live_read : (names : List (List ℕ)) (views : List ViewForm) (marks : Marks) → AreAllLive marks → AreAllLive (marks_read names views marks)
live_read names views marks are_live = live_named (needed views names) views marks are_live

live_where_read : (names : List (List ℕ)) (old : State) → AreAllLive old.marks → AreAllLive (marks_where_read names old)
live_where_read [] old are_live = are_live
live_where_read (name ∷ names) old are_live = live_read (name ∷ names) old.catalog.views old.marks are_live

live_last : (marks : Marks) → AreAllLive marks → AreAllLive (marks ++ live 0 ∷ [])
live_last [] are_live = ((λ e. absurd cc), tt)
live_last (mark ∷ marks) are_live = (are_live.0, live_last marks are_live.1)

live_made : (view : Option ViewOn) (views : List ViewForm) (marks : Marks) → AreAllLive marks → AreAllLive (marks_made view views marks)
live_made None views marks are_live = are_live
live_made (Some on) views marks are_live = live_last (marks_read (names_read on.stages on.source) views marks) (live_read (names_read on.stages on.source) views marks are_live)

live_but : (here : Bool) (mark : Mark) (others : Marks) → (mark ≡ stale → ⊥) → AreAllLive others → AreAllLive (if here then others else mark ∷ others)
live_but true mark others not_stale are_live = are_live
live_but false mark others not_stale are_live = (not_stale, are_live)

live_without : (namespace : List ℕ) (views : List ViewForm) (marks : Marks) → AreAllLive marks → AreAllLive (marks_without namespace views marks)
live_without namespace [] marks are_live = are_live
live_without namespace (v ∷ views) [] are_live = tt
live_without namespace (v ∷ views) (mark ∷ marks) are_live = live_but (has_name namespace v) mark (marks_without namespace views marks) are_live.0 (live_without namespace views marks are_live.1)

either_live : (here : Bool) (one two : Marks) → AreAllLive one → AreAllLive two → AreAllLive (if here then one else two)
either_live true one two first second = first
either_live false one two first second = second

live_where_made : (result : Result stored.State Refusal) (new old : Marks) → AreAllLive new → AreAllLive old → AreAllLive (marks_where_made result new old)
live_where_made (Ok state) new old first second = first
live_where_made (Err refusal) new old first second = second

pub live_behind : (old : State) (asked : Result Asked Refusal) → AreAllLive old.marks → AreAllLive (marks_behind_all old asked)
live_behind old (Ok (asking.write asked)) are_live =
    let write = write_by asked in
    either_live (is_view write.namespace old.catalog.views) old.marks _ are_live
    (live_written write.namespace write.ordered old.catalog.views (nothing_written old.catalog.namespaces) write.statements old.marks are_live)
live_behind old (Ok (create asked)) are_live =
    live_where_made (created asked.namespace asked.view old.catalog) (marks_made asked.view old.catalog.views old.marks) old.marks (live_made asked.view old.catalog.views old.marks are_live) are_live
live_behind old (Ok (drop asked)) are_live =
    let namespace = asked.namespace in
    live_where_made (dropped namespace old.catalog) (marks_of_drop namespace old.catalog old.marks) old.marks
    (either_live (is_collection namespace old.catalog.namespaces) _ _
    (live_counted (shares_told namespace (all_gone (documents_of namespace old.catalog.namespaces)) (lists_of old.catalog.namespaces) old.catalog.views) old.marks are_live)
    (live_without namespace old.catalog.views old.marks are_live))
    are_live
live_behind old (Ok asked) are_live = live_where_read (read_by asked) old are_live
live_behind old (Err refusal) are_live = are_live
