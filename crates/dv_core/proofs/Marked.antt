-- The marks of views after a step.
use Rattle.std.proofs.Common.{◌≡◌, ◌⊎◌, ℕ, suc, Bool, true, false, if◌then◌else◌, List, [], ◌∷◌, ◌++◌, length, Option, Some, None, Result, Ok, Err, pos, inl, inr, refl, sym, ap, subst, ◌∙◌, arith}
use Rattle.std.proofs.lemmas.List.{length-append}
use Rattle.std.specs.FinMap as finite
use Rattle.dv_value.specs.Tree.{Field, int32}
use Rattle.dv_catalog.specs.Marks.{AreMarkedWhere, Marks, all_gone, live, marks_counted, marks_made, marks_read, marks_without}
use Rattle.dv_catalog.specs.State.{documents_of, is_collection, is_there, is_view, lists_of, without_view}
use Rattle.dv_catalog.specs.State as stored
use Rattle.dv_catalog.specs.Views.{created, dropped, made, reads_name, with_view, with_view_by, with_views}
use Rattle.dv_command.specs.Asked.{Asked, ViewOn, create, drop, create_indexes, drop_indexes, asked_by}
use Rattle.dv_command.specs.Asked as asking
use Rattle.dv_command.specs.Replies.{drop_reply, reply_of}
use Rattle.dv_command.specs.declared.command.Command.{Command}
use Rattle.dv_value.specs.Results.{◌>>=◌}
use Rattle.dv_refusal.specs.declared.refusal.Refusal.{Refusal}
use Rattle.dv_refusal.specs.declared.refusal.Refusal.TheVariants.{NamespaceExists, NamespaceNotFound, OnView, ReadByView}
use Rattle.dv_views.specs.Forms.{ViewForm, fault_of_new, names_read}
use Rattle.dv_views.specs.declared.fault.ViewFault.{ViewFault}
use Rattle.dv_core.specs.declared.outcome.Outcome.{Outcome}
use Rattle.dv_core.specs.declared.outcome.Outcome.TheVariants.{Reply, Wanting, NoReply}
use Rattle.dv_core.specs.Load.{IsLoaded}
use Rattle.dv_core.specs.Marks.{AreMarked, AreMarkedAll, AreMarkedByWrite, AreMarkedForWant, AreMarkedWhereDropped, marks_behind, marks_behind_all, marks_of_drop, marks_where_made, marks_written, read_by}
use Rattle.dv_core.specs.Runs.{carries, stands, state_after_move, state_behind_all, wants}
use Rattle.dv_core.specs.State.{State, marked, standing}
use Rattle.dv_core.specs.Statements.{WriteSteps, carry_out, nothing_written}
use Rattle.dv_core.specs.Step.{Answer, Cut, IsLeft, MemoryStep, Wants, WriteCut, answer_to, answered, counted_step, indexes, makes, on_catalog, replying, step, write_answer, asked_write, task_of}
use Rattle.dv_core.specs.Writes.{write_by}
use Rattle.dv_core.proofs.Bare.{bare}
use Rattle.dv_core.proofs.Changed.{refused_leave, told, views_stay, want_leaves, refusal_leaves, write_told}
use Rattle.dv_core.proofs.Cursored.{memory_moves}
use Rattle.dv_core.proofs.Made.{indexing_leaves}
use Rattle.dv_core.proofs.Viewed.{loaded_leaves}
use Rattle.dv_core.proofs.Marking.{counted_marked, cut_length, each_length, marked_length, partly_length, read_length, where_read, where_read_length, without_length, written_marked}
use Rattle.dv_core.proofs.Works.{work_marks}

-- ---- the answer leaves the marks unchanged

step_leaves : (old : State) (session : ℕ) (asked : Result Asked Refusal) → (answered old (asked >>= answer_to old session)).state.marks ≡ old.marks
step_leaves old session (Ok asked) = work_marks old (task_of old session asked)
step_leaves old session (Err refusal) = refl

-- ---- the marks if no view becomes stale

module _ (old : State) where
  write_counted : (b : Bool) (write : WriteSteps) → AreMarkedByWrite b write old (if b then old.marks else marks_written write.namespace write.ordered old.catalog.views (nothing_written old.catalog.namespaces) write.statements old.marks)
  write_counted true write = refl
  write_counted false write = written_marked write.namespace write.ordered old.catalog.views (nothing_written old.catalog.namespaces) write.statements old.marks

  drop_counted : (b : Bool) (namespace : List ℕ) (state : stored.State) → AreMarkedWhere b namespace state old.marks
      (if b then marks_counted namespace (all_gone (documents_of namespace state.namespaces)) (lists_of state.namespaces) state.views old.marks else marks_without namespace state.views old.marks)
  drop_counted true namespace state = counted_marked namespace (lists_of state.namespaces) (all_gone (documents_of namespace state.namespaces)) state.views old.marks
  drop_counted false namespace state = refl

  dropped_counted : (made : Result stored.State Refusal) (namespace : List ℕ) → AreMarkedWhereDropped made namespace old (marks_where_made made (marks_of_drop namespace old.catalog old.marks) old.marks)
  dropped_counted (Ok state) namespace = drop_counted (is_collection namespace old.catalog.namespaces) namespace old.catalog
  dropped_counted (Err refusal) namespace = refl

  asked_counted : (asked : Asked) → AreMarked old asked (marks_behind old asked)
  asked_counted (asking.write w) = write_counted (is_view w.namespace old.catalog.views) (write_by w)
  asked_counted (drop d) = dropped_counted (dropped d.namespace old.catalog) d.namespace
  asked_counted asked = refl

  all_counted : (asked : Result Asked Refusal) → AreMarkedAll old asked (marks_behind_all old asked)
  all_counted (Ok asked) = asked_counted asked
  all_counted (Err refusal) = refl

pub counted_steps : (state : State) (session : ℕ) (command : Command) → MemoryStep state session command (Reply (counted_step state session command).reply) (counted_step state session command).state
counted_steps state session command =
    let leaves = step_leaves state session (asked_by command) in (
      λ i. record { reply = (step state session command).reply; state = standing (leaves i) (step state session command).state },
      all_counted state (asked_by command),
    )

-- ---- one mark for each view

more_by : (fault : Option ViewFault) (v : ViewForm) (views after : List ViewForm) → with_view_by v views fault ≡ Ok after → length after ≡ suc (length views)
more_by None v views after is = let same : views ++ v ∷ [] ≡ after = cc in ap length (sym same) ∙ length-append views (v ∷ []) ∙ omega arith
more_by (Some fault) v views after is = absurd cc

one_more : (v : ViewForm) (views after : List ViewForm) → with_view v views ≡ Ok after → length after ≡ suc (length views)
one_more v views after is = more_by (fault_of_new views v.name v.source v.stages) v views after is

module _ (old : State) (each : length old.marks ≡ length old.catalog.views) where
  write_each : (b : Bool) (write : WriteSteps) (marks : Marks) → AreMarkedByWrite b write old marks → length marks ≡ length old.marks
  write_each true write marks marked = ap length marked
  write_each false write marks marked = each_length write.namespace write.ordered old.catalog.views (nothing_written old.catalog.namespaces) write.statements old.marks marks marked

  -- a command that keeps the views keeps the number of marks
  stay_each : (asked : Asked) (marks : Marks) → (makes asked ≡ false) ⊎ (indexes asked ≡ true) → AreMarked old asked marks → length marks ≡ length old.marks
  stay_each (asking.write w) marks stays marked = write_each (is_view w.namespace old.catalog.views) (write_by w) marks marked
  stay_each (drop d) marks (inl idle) marked = absurd cc
  stay_each (drop d) marks (inr index) marked = absurd cc
  stay_each (create c) marks (inl idle) marked = absurd cc
  stay_each (create c) marks (inr index) marked = absurd cc
  stay_each asked marks stays marked = ap length marked ∙ where_read_length (read_by asked) old

  want_each : (asked : Result Asked Refusal) (marks : Marks) → AreMarkedForWant old asked marks → length marks ≡ length old.catalog.views
  want_each (Ok asked) marks (inl same) = ap length same ∙ each
  want_each (Ok asked) marks (inr some) = partly_length (read_by asked) old.catalog.views old.marks marks some ∙ each
  want_each (Err refusal) marks same = ap length same ∙ each

  cut_each : (asked : Result Asked Refusal) (answer : Answer) (marks : Marks) → Cut old asked answer marks → length marks ≡ length answer.state.catalog.views
  cut_each (Ok asked) answer marks cut = by_write (asked_write asked) cut
    where
      by_write : (write : Option WriteSteps) → WriteCut old write answer marks → length marks ≡ length answer.state.catalog.views
      by_write None cut = absurd cut
      by_write (Some write) (on, (left, is_cut, answers, marked)) =
          cut_length write.namespace write.ordered old.catalog.views write.statements old.catalog.namespaces left is_cut old.marks marks marked ∙ each
          ∙ ap (λ (a : Answer). length a.state.catalog.views) (sym answers)
  cut_each (Err refusal) answer marks cut = absurd cut

  wants_each : (command : Command) (answer : Answer) (marks : Marks) → Wants old command answer marks → length marks ≡ length answer.state.catalog.views
  wants_each command answer marks (inl (refused, marked)) = want_each (asked_by command) marks marked ∙ ap (λ (a : Answer). length a.state.catalog.views) (sym refused)
  wants_each command answer marks (inr cut) = cut_each (asked_by command) answer marks cut

  -- a create, and a drop
  with_each : (result : Result (List ViewForm) Refusal) (names : List (List ℕ)) (reply : List Field) → ((views : List ViewForm) → result ≡ Ok views → length views ≡ suc (length old.catalog.views)) → (marks : Marks)
      → marks ≡ marks_where_made (with_views old.catalog result) (marks_read names old.catalog.views old.marks ++ live 0 ∷ []) old.marks
      → length marks ≡ length (answered old (on_catalog old (replying reply (with_views old.catalog result)))).state.catalog.views
  with_each (Ok views) names reply more marks marked =
      ap length marked ∙ length-append (marks_read names old.catalog.views old.marks) (live 0 ∷ []) ∙ omega (arith, each, more views refl, read_length names old.catalog.views old.marks)
  with_each (Err refusal) names reply more marks marked = ap length marked ∙ each

  create_each : (b : Bool) (view : Option ViewOn) (namespace : List ℕ) (reply : List Field) (marks : Marks)
      → marks ≡ marks_where_made (if b then Err NamespaceExists else made namespace view old.catalog) (marks_made view old.catalog.views old.marks) old.marks
      → length marks ≡ length (answered old (on_catalog old (replying reply (if b then Err NamespaceExists else made namespace view old.catalog)))).state.catalog.views
  create_each true view namespace reply marks marked = ap length marked ∙ each
  create_each false None namespace reply marks marked = ap length marked ∙ each
  create_each false (Some on) namespace reply marks marked =
      let v : ViewForm = record { name = namespace; source = on.source; stages = on.stages } in
      with_each (with_view v old.catalog.views) (names_read on.stages on.source) reply (λ views is. one_more v old.catalog.views views is) marks marked

  -- by whether there is a collection, or a view, and whether another view reads it
  abbrev left_where : Bool → Bool → Bool → List ℕ → Result stored.State Refusal
  left_where b c read namespace =
      if b then Ok (record old.catalog { namespaces = finite.remove old.catalog.namespaces namespace })
      else if c then (if read then Err ReadByView else Ok (record old.catalog { views = without_view namespace old.catalog.views }))
      else Err NamespaceNotFound

  drop_each : (b c read : Bool) (namespace : List ℕ) (reply : List Field) (marks : Marks) → is_collection namespace old.catalog.namespaces ≡ b → AreMarkedWhereDropped (left_where b c read namespace) namespace old marks
      → length marks ≡ length (answered old (on_catalog old (replying reply (left_where b c read namespace)))).state.catalog.views
  drop_each true c read namespace reply marks there marked =
      marked_length namespace (lists_of old.catalog.namespaces) (all_gone (documents_of namespace old.catalog.namespaces)) old.catalog.views old.marks marks
      (subst (λ (d : Bool). AreMarkedWhere d namespace old.catalog old.marks marks) there marked) ∙ each
  drop_each false true true namespace reply marks there marked = ap length marked ∙ each
  drop_each false true false namespace reply marks there marked =
      let without : marks ≡ marks_without namespace old.catalog.views old.marks = subst (λ (d : Bool). AreMarkedWhere d namespace old.catalog old.marks marks) there marked in
      ap length without ∙ without_length namespace old.catalog.views old.marks each
  drop_each false false read namespace reply marks there marked = ap length marked ∙ each

  module _ (session : ℕ) (command : Command) where
    views_same : (asked : Asked) → asked_by command ≡ Ok asked → (makes asked ≡ false) ⊎ (indexes asked ≡ true) → (step old session command).state.catalog.views ≡ old.catalog.views
    views_same asked asks (inl idle) = views_stay old (step old session command).state session command asked (Reply (step old session command).reply) asks idle refl
    views_same asked asks (inr index) = (indexing_leaves old (step old session command).state session command asked (Reply (step old session command).reply) asks index refl).0

    stays : (asked : Asked) (marks : Marks) → asked_by command ≡ Ok asked → (makes asked ≡ false) ⊎ (indexes asked ≡ true) → AreMarked old asked marks → length marks ≡ length (step old session command).state.catalog.views
    stays asked marks asks same marked = stay_each asked marks same marked ∙ each ∙ ap length (sym (views_same asked asks same))

    by_asked : (asked : Result Asked Refusal) (marks : Marks) → asked_by command ≡ asked → AreMarkedAll old asked marks → length marks ≡ length (step old session command).state.catalog.views
    by_asked (Ok (create c)) marks asks marked =
        subst (λ (r : Result Asked Refusal). length marks ≡ length (answered old (r >>= answer_to old session)).state.catalog.views) (sym asks)
        (create_each (is_there c.namespace old.catalog) c.view c.namespace (reply_of []) marks marked)
    by_asked (Ok (drop d)) marks asks marked =
        subst (λ (r : Result Asked Refusal). length marks ≡ length (answered old (r >>= answer_to old session)).state.catalog.views) (sym asks)
        (drop_each (is_collection d.namespace old.catalog.namespaces) (is_view d.namespace old.catalog.views) (reads_name old.catalog.views d.namespace) d.namespace (drop_reply d.namespace) marks refl marked)
    by_asked (Ok (create_indexes c)) marks asks marked = stays (create_indexes c) marks asks (inr refl) marked
    by_asked (Ok (drop_indexes d)) marks asks marked = stays (drop_indexes d) marks asks (inr refl) marked
    by_asked (Ok asked) marks asks marked = stays asked marks asks (inl refl) marked
    by_asked (Err refusal) marks asks marked =
        subst (λ (r : Result Asked Refusal). length marks ≡ length (answered old (r >>= answer_to old session)).state.catalog.views) (sym asks) (ap length marked ∙ each)

    step_each : (marks : Marks) → AreMarkedAll old (asked_by command) marks → length marks ≡ length (step old session command).state.catalog.views
    step_each marks marked = by_asked (asked_by command) marks refl marked

pub each_after : (old new : State) (session : ℕ) (command : Command) (outcome : Outcome) → length old.marks ≡ length old.catalog.views → MemoryStep old session command outcome new → length new.marks ≡ length new.catalog.views
each_after old new session command (Reply reply) each (is, marked) = step_each old each session command new.marks marked ∙ ap (λ (a : Answer). length a.state.catalog.views) is
each_after old new session command (Wanting reply) each lacks = wants_each old each command (record { reply = reply; state = standing old.marks new }) new.marks lacks
each_after old new session command NoReply each (inl (is, marked)) = step_each old each session command new.marks marked ∙ ap (λ (s : State). length s.catalog.views) (sym is)
each_after old new session command NoReply each (inr (answer, lacks, is)) = wants_each old each command answer new.marks lacks ∙ ap (λ (s : State). length s.catalog.views) (sym is)

pub each_loaded : (old new : State) (text : List ℕ) (d : List Field) → length old.marks ≡ length old.catalog.views → IsLoaded text d old new → length new.marks ≡ length new.catalog.views
each_loaded old new text d each is =
    marked_length text (lists_of old.catalog.namespaces) _ old.catalog.views old.marks new.marks is.marks ∙ each ∙ ap length (sym (loaded_leaves old (standing old.marks new) text d is.so).views)

-- ---- replies that say that the command was refused

module _ (old : State) where
  abbrev IsRefused : Answer → Type 0
  IsRefused answer = told answer.reply ≡ Some (int32 (pos 0))

  write_left : (b : Bool) (what : Asked) (write : WriteSteps) (answer : Answer) (marks : Marks) → told answer.reply ≡ Some (int32 (pos 1)) → IsRefused (answered old (if b then Err OnView else Ok answer))
      → AreMarkedByWrite b write old marks → marks ≡ old.marks
  write_left true what write answer marks carried refused marked = marked
  write_left false what write answer marks carried refused marked = absurd (cc (carried, refused))

  create_left : (made : Result stored.State Refusal) (so marks : Marks) (reply : List Field) → told reply ≡ Some (int32 (pos 1)) → IsRefused (answered old (on_catalog old (replying reply made)))
      → marks ≡ marks_where_made made so old.marks → marks ≡ old.marks
  create_left (Ok state) so marks reply tells refused marked = absurd (cc (tells, refused))
  create_left (Err refusal) so marks reply tells refused marked = marked

  drop_left : (made : Result stored.State Refusal) (namespace : List ℕ) (marks : Marks) (reply : List Field) → told reply ≡ Some (int32 (pos 1)) → IsRefused (answered old (on_catalog old (replying reply made)))
      → AreMarkedWhereDropped made namespace old marks → marks ≡ old.marks
  drop_left (Ok state) namespace marks reply tells refused marked = absurd (cc (tells, refused))
  drop_left (Err refusal) namespace marks reply tells refused marked = marked

  asked_left : (session : ℕ) (asked : Asked) (marks : Marks) → IsRefused (answered old (answer_to old session asked)) → AreMarked old asked marks → AreMarkedForWant old (Ok asked) marks
  asked_left session (asking.write w) marks refused marked =
      let did = carry_out (write_by w) old.catalog.namespaces in
      inl (write_left (is_view w.namespace old.catalog.views) (asking.write w) (write_by w) (write_answer old (write_by w) did) marks (write_told (asking.write w) (write_by w) refl did.n did.changed did.errors) refused marked)
  asked_left session (create c) marks refused marked = inl (create_left (created c.namespace c.view old.catalog) (marks_made c.view old.catalog.views old.marks) marks (reply_of []) refl refused marked)
  asked_left session (drop d) marks refused marked = inl (drop_left (dropped d.namespace old.catalog) d.namespace marks (drop_reply d.namespace) refl refused marked)
  asked_left session asked marks refused marked = where_read (read_by asked) old marks marked

  all_left : (session : ℕ) (asked : Result Asked Refusal) (marks : Marks) → IsRefused (answered old (asked >>= answer_to old session)) → AreMarkedAll old asked marks → AreMarkedForWant old asked marks
  all_left session (Ok asked) marks refused marked = asked_left session asked marks refused marked
  all_left session (Err refusal) marks refused marked = marked

  cut_told : (asked : Result Asked Refusal) (answer : Answer) (marks : Marks) → Cut old asked answer marks → told answer.reply ≡ Some (int32 (pos 1))
  cut_told (Ok asked) answer marks cut = by_write (asked_write asked) refl cut
    where
      by_write : (write : Option WriteSteps) → asked_write asked ≡ write → WriteCut old write answer marks → told answer.reply ≡ Some (int32 (pos 1))
      by_write None is cut = absurd cut
      by_write (Some write) is (on, (left, is_cut, answers, marked)) = ap (λ (a : Answer). told a.reply) answers ∙ write_told asked write is left.n left.changed left.errors
  cut_told (Err refusal) answer marks cut = absurd cut

  wants_left : (command : Command) (answer : Answer) (marks : Marks) → IsRefused answer → Wants old command answer marks → AreMarkedForWant old (asked_by command) marks
  wants_left command answer marks refused (inl (is, marked)) = marked
  wants_left command answer marks refused (inr cut) = absurd (cc (cut_told (asked_by command) answer marks cut, refused))

left_so : (old new : State) (asked : Result Asked Refusal) → standing old.marks new ≡ old → AreMarkedForWant old asked new.marks → IsLeft old asked new
left_so old new asked same marked = (ap (λ (s : State). s.catalog) same, ap (λ (s : State). s.cursors) same, marked)

pub refused_left : (old new : State) (session : ℕ) (command : Command) (reply : List Field) → MemoryStep old session command (Reply reply) new → told reply ≡ Some (int32 (pos 0)) → IsLeft old (asked_by command) new
refused_left old new session command reply (is, marked) refused =
    left_so old new (asked_by command) (refusal_leaves old (standing old.marks new) session command reply is refused)
    (all_left old session (asked_by command) new.marks (ap (λ (a : Answer). told a.reply) is ∙ refused) marked)

pub wanting_left : (old new : State) (session : ℕ) (command : Command) (reply : List Field) → MemoryStep old session command (Wanting reply) new → told reply ≡ Some (int32 (pos 0)) → IsLeft old (asked_by command) new
wanting_left old new session command reply lacks refused =
    left_so old new (asked_by command) (want_leaves old (standing old.marks new) session command reply (bare old new session command (Wanting reply) lacks) refused)
    (wants_left old command (record { reply = reply; state = standing old.marks new }) new.marks refused lacks)

-- ---- a command that is refused when it is parsed

unasked : (old : State) (asked : Result Asked Refusal) (refusal : Refusal) (marks : Marks) → asked ≡ Err refusal → AreMarkedForWant old asked marks ⊎ AreMarkedAll old asked marks → marks ≡ old.marks
unasked old (Ok asked) refusal marks is marked = absurd cc
unasked old (Err other) refusal marks is (inl marked) = marked
unasked old (Err other) refusal marks is (inr marked) = marked

unasked_wants : (old : State) (command : Command) (refusal : Refusal) (answer : Answer) (marks : Marks) → asked_by command ≡ Err refusal → Wants old command answer marks → marks ≡ old.marks
unasked_wants old command refusal answer marks is (inl (refused, marked)) = unasked old (asked_by command) refusal marks is (inl marked)
unasked_wants old command refusal answer marks is (inr cut) = absurd (subst (λ (r : Result Asked Refusal). Cut old r answer marks) is cut)

unasked_marks : (old new : State) (session : ℕ) (command : Command) (refusal : Refusal) (outcome : Outcome) → asked_by command ≡ Err refusal → MemoryStep old session command outcome new → new.marks ≡ old.marks
unasked_marks old new session command refusal (Reply reply) is (steps, marked) = unasked old (asked_by command) refusal new.marks is (inr marked)
unasked_marks old new session command refusal (Wanting reply) is lacks = unasked_wants old command refusal _ new.marks is lacks
unasked_marks old new session command refusal NoReply is (inl (steps, marked)) = unasked old (asked_by command) refusal new.marks is (inr marked)
unasked_marks old new session command refusal NoReply is (inr (answer, lacks, steps)) = unasked_wants old command refusal answer new.marks is lacks

pub unasked_leaves : (old new : State) (session : ℕ) (command : Command) (refusal : Refusal) (outcome : Outcome) → asked_by command ≡ Err refusal → MemoryStep old session command outcome new → new ≡ old
unasked_leaves old new session command refusal outcome is steps =
    let marks = unasked_marks old new session command refusal outcome is steps in
    let same = refused_leave old (standing old.marks new) session command refusal outcome is (bare old new session command outcome steps) in
    λ i. record { catalog = (same i).catalog; cursors = (same i).cursors; marks = marks i }

-- ---- moves of a run

pub step_moves : (old new : State) (session : ℕ) (command : Command) (outcome : Outcome) → MemoryStep old session command outcome new
    → (new ≡ state_behind_all (carries session command ∷ stands new.marks ∷ []) old) ⊎ ((catalog : stored.State) × (new ≡ state_behind_all (wants catalog ∷ stands new.marks ∷ []) old))
step_moves old new session command outcome steps = by_moves (memory_moves old (standing old.marks new) session command outcome (bare old new session command outcome steps))
  where
    by_moves : (standing old.marks new ≡ state_after_move (carries session command) old) ⊎ ((catalog : stored.State) × (standing old.marks new ≡ state_after_move (wants catalog) old))
        → (new ≡ state_behind_all (carries session command ∷ stands new.marks ∷ []) old) ⊎ ((catalog : stored.State) × (new ≡ state_behind_all (wants catalog ∷ stands new.marks ∷ []) old))
    by_moves (inl is) = inl (ap (standing new.marks) is)
    by_moves (inr (catalog, is)) = inr (catalog, ap (standing new.marks) is)
