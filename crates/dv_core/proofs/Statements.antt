-- The statements of a write, one after the other.
use Rattle.std.proofs.Common.{◌≡◌, ℕ, suc, ◌+◌, ◌<◌, ◌⊎◌, Bool, true, false, not, List, [], ◌∷◌, ◌++◌, length, take, Result, Ok, Err, if◌then◌else◌, refl, sym, ap, subst, ◌∙◌, append_assoc, inl, inr}
use Rattle.std.specs.declared.alloc.AllocError.{AllocError}
use Rattle.std.proofs.lemmas.List.{append-nil}
use Rattle.dv_value.specs.Tree.{Tree, Field}
use Rattle.dv_refusal.specs.declared.refusal.Refusal.{Refusal}
use Rattle.dv_refusal.specs.declared.refusal.Refusal.TheVariants.{WantOfMemory}
use Rattle.dv_core.specs.declared.outcome.Outcome.TheVariants.{Reply, Wanting, NoReply}
use Rattle.dv_core.specs.declared.next.Next.{Next}
use Rattle.dv_core.specs.declared.next.Next.TheVariants.{Due, Ended}
use Rattle.dv_catalog.specs.Marks.{AreMarkedBy, Marked, Marks}
use Rattle.dv_catalog.specs.State.{Namespaces, collection_of, lists_of}
use Rattle.dv_views.specs.Forms.{ViewForm}
use Rattle.dv_catalog.specs.Changes.{Change, Effect, Statement, apply, changes_of, done_to}
use Rattle.dv_core.specs.Statements.{WriteSteps, Written, nothing_written, with_next, with_all, with_result, is_due, next_changes, cut, AreCut, IsCutWrite}
use Rattle.dv_catalog.specs.Inner.Parts as Parts
use Rattle.dv_catalog.specs.declared.failure.Stopped.{Stopped}
use Rattle.dv_command.specs.Replies.{document_of, cut_error}
use Rattle.dv_core.specs.Marks.{AreMarkedByCut, AreMarkedByEach, due_changes}
use Rattle.dv_core.specs.Inner.WriteParts.{with_stopped, next_behind, reply_seen, CarriesOutWrite, CutsNext, CutsWrite, DoesNext, NextStep, Notes, WritesOrCuts}
use Rattle.dv_core.proofs.Marking.{each_append, each_stopped}

is_due-push : (ordered : Bool) (es : List Tree) (e : Tree) → is_due ordered (es ++ e ∷ []) ≡ not ordered
is_due-push ordered [] e = refl
is_due-push ordered (x ∷ es) e = refl

module _ (namespace : List ℕ) (ordered : Bool) (views : List ViewForm) where
  -- the marks after changes to these collections
  abbrev StandBy : Written → List Change → Marks → Marks → Type 0
  StandBy so_far changes before after = AreMarkedBy namespace changes (lists_of so_far.namespaces) views before after

  -- ---- one statement

  module _ (so_far now : Written) (statement : Statement) (before after : Marks) where
    -- the statement was carried out
    pub next_made : (matched : ℕ) (changes : List Change) → is_due ordered so_far.errors ≡ true → done_to (collection_of namespace so_far.namespaces) statement ≡ Ok (record { matched = matched; changes = changes })
        → now ≡ record { statements = suc so_far.statements; n = so_far.n + matched; changed = so_far.changed + length changes; errors = so_far.errors; namespaces = apply namespace changes so_far.namespaces }
        → StandBy so_far (next_changes namespace ordered so_far statement) before after → NextStep namespace ordered views so_far statement before (Ok Due) now after
    next_made matched changes due made is marked = record { is_next = rw (due, made) is; behind = rw is due; marked = marked }

    -- an error of an ordered command ends it
    ended_or_due : (b : Bool) → ordered ≡ b → now ≡ with_next namespace ordered so_far statement → is_due ordered now.errors ≡ not ordered → StandBy so_far (next_changes namespace ordered so_far statement) before after
        → NextStep namespace ordered views so_far statement before (Ok (if b then Ended else Due)) now after
    ended_or_due true ends is due marked = record { is_next = is; behind = due ∙ rw ends refl; marked = marked }
    ended_or_due false ends is due marked = record { is_next = is; behind = due ∙ rw ends refl; marked = marked }

  -- a refusal that is noted, or for which there was no memory
  module _ (so_far : Written) (statement : Statement) (new : Namespaces) (before after : Marks) where
    abbrev does : Result Effect Refusal
    does = done_to (collection_of namespace so_far.namespaces) statement

    abbrev Stops : Stopped → Type 0
    Stops stopped = Parts.IsRefused does so_far.namespaces stopped new ⊎ Parts.IsCut namespace does so_far.namespaces stopped new

    abbrev noted_so : Refusal → ℕ → Written
    noted_so refusal done = with_stopped (record so_far { namespaces = new }) (record { refusal = refusal; done = done })

    -- the marks after the first `done` of its changes
    abbrev MarkedFor : ℕ → Type 0
    MarkedFor done = StandBy so_far (take done (changes_of does)) before after

    -- a refused statement has no changes
    none_refused : (refusal : Refusal) (done : ℕ) → does ≡ Err refusal → done ≡ 0 → MarkedFor done → StandBy so_far (changes_of does) before after
    none_refused refusal done so none marked =
        subst (λ (changes : List Change). StandBy so_far changes before after) (sym (ap changes_of so)) (subst MarkedFor none marked)

    next_stopped : (now : Written) (refusal : Refusal) (done : ℕ) → is_due ordered so_far.errors ≡ true → Stops (record { refusal = refusal; done = done }) → now ≡ noted_so refusal done → MarkedFor done
        → NextStep namespace ordered views so_far statement before (Ok (next_behind ordered refusal)) now after
    next_stopped now WantOfMemory done due (inl refused) is marked = record {
      made = 0;
      marked = subst MarkedFor refused.none marked;
      fewer = inl refl;
      is_cut = is ∙ (λ i. record { statements = suc so_far.statements; n = so_far.n; changed = so_far.changed; errors = so_far.errors ++ document_of (cut_error so_far.statements (refused.none i)) ∷ []; namespaces = refused.kept i });
    }
    next_stopped now WantOfMemory done due (inr cuts) is marked = record {
      made = done;
      marked = marked;
      fewer = cuts.fewer;
      is_cut = is ∙ (λ i. record { statements = suc so_far.statements; n = so_far.n; changed = so_far.changed; errors = so_far.errors ++ document_of (cut_error so_far.statements done) ∷ []; namespaces = cuts.made i });
    }
    next_stopped now refusal done due (inl refused) is marked =
        ended_or_due so_far now statement before after ordered refl (rw (due, refused.so) (is ∙ rw refused.kept refl)) (rw is (is_due-push ordered so_far.errors _)) (none_refused refusal done refused.so refused.none marked)
    next_stopped now refusal done due (inr cuts) is marked = absurd (cc cuts.so)

    cut_untold_at : (now : Written) (stopped : Stopped) → Stops stopped → now.namespaces ≡ new → MarkedFor stopped.done
        → (cuts : Written) × CutsNext namespace ordered views so_far statement before cuts after × (now.namespaces ≡ cuts.namespaces)
    cut_untold_at now stopped (inl refused) same marked =
        (cut namespace ordered 0 so_far statement, record { made = 0; fewer = inl refl; is_cut = refl; marked = subst MarkedFor refused.none marked }, same ∙ refused.kept)
    cut_untold_at now stopped (inr cuts) same marked =
        (cut namespace ordered stopped.done so_far statement, record { made = stopped.done; fewer = cuts.fewer; is_cut = refl; marked = marked }, same ∙ cuts.made)

    pub next_noted : (now : Written) (stopped : Stopped) → is_due ordered so_far.errors ≡ true → Stops stopped → MarkedFor stopped.done → (result : Result Next AllocError) → Notes ordered stopped (record so_far { namespaces = new }) result now
        → now.namespaces ≡ new → NextStep namespace ordered views so_far statement before result now after
    next_noted now stopped due stops marked (Ok next) (now_is, next_is) same = rw next_is (next_stopped now stopped.refusal stopped.done due stops now_is marked)
    next_noted now stopped due stops marked (Err e) told same = cut_untold_at now stopped stops same marked

  counts_result : (so_far : Written) (result : Result Effect Refusal) → (with_result namespace ordered so_far result).statements ≡ suc so_far.statements
  counts_result so_far (Ok effect) = refl
  counts_result so_far (Err refusal) = refl

  -- ---- how far a write has got

  pub with_all-append : (w : Written) (xs ys : List Statement) → with_all namespace ordered w (xs ++ ys) ≡ with_all namespace ordered (with_all namespace ordered w xs) ys
  with_all-append w [] ys = refl
  with_all-append w (x ∷ xs) ys = with_all-append (with_next namespace ordered w x) xs ys

  -- if no statement is due, the rest don't matter
  pub with_all-stopped : (w : Written) (xs : List Statement) → is_due ordered w.errors ≡ false → with_all namespace ordered w xs ≡ w
  with_all-stopped w [] stopped = refl
  with_all-stopped w (x ∷ xs) stopped = rw stopped (with_all-stopped w xs stopped)

  -- if the next statement is due, its changes are those that are passed on to views
  due_marked : (so_far : Written) (statement : Statement) (before after : Marks) → is_due ordered so_far.errors ≡ true → StandBy so_far (next_changes namespace ordered so_far statement) before after
      → StandBy so_far (due_changes namespace ordered views so_far statement) before after
  due_marked so_far statement before after due marked = rw due marked

  module _ (statements : List Statement) (old : Namespaces) (from : Marks) where
    -- all statements were carried out, and led to these marks
    abbrev pub AreCarried : Written → Marks → Type 0
    AreCarried so_far marks = (so_far ≡ with_all namespace ordered (nothing_written old) statements) × AreMarkedByEach namespace ordered views (nothing_written old) statements from marks

    -- the statements before the rest were carried out, and the first of the rest is due
    pub record Reached (so_far : Written) (marks : Marks) (rest : List Statement) : Type 0 where
      pub before : List Statement
      pub stands : statements ≡ before ++ rest
      pub carried_out : so_far ≡ with_all namespace ordered (nothing_written old) before
      pub due : is_due ordered so_far.errors ≡ true
      pub marked : AreMarkedByEach namespace ordered views (nothing_written old) before from marks

    pub starts : Reached (nothing_written old) from statements
    starts = record { before = []; stands = refl; carried_out = refl; due = refl; marked = refl }

    module _ (so_far : Written) (marks : Marks) where
      pub at_end : Reached so_far marks [] → AreCarried so_far marks
      at_end reached =
          let whole : reached.before ≡ statements = sym (append-nil reached.before) ∙ sym reached.stands in (
            reached.carried_out ∙ ap (with_all namespace ordered (nothing_written old)) whole,
            subst (λ (ss : List Statement). AreMarkedByEach namespace ordered views (nothing_written old) ss from marks) whole reached.marked,
          )

      module _ (statement : Statement) (rest : List Statement) (reached : Reached so_far marks (statement ∷ rest)) where
        cut_at : (now : Written) (after : Marks) → CutsNext namespace ordered views so_far statement marks now after → AreCut namespace ordered statements old now
        cut_at now after cuts = record {
          before = reached.before;
          statement = statement;
          behind = rest;
          made = cuts.made;
          stands = reached.stands;
          reached = rw (← reached.carried_out) reached.due;
          fewer = subst (λ (w : Written). (cuts.made ≡ 0) ⊎ (cuts.made < length (next_changes namespace ordered w statement))) reached.carried_out cuts.fewer;
          left_so = cuts.is_cut ∙ ap (λ (w : Written). cut namespace ordered cuts.made w statement) reached.carried_out;
        }

        pub cut_here : (now : Written) (after : Marks) → CutsNext namespace ordered views so_far statement marks now after
            → (is_cut : AreCut namespace ordered statements old now) × AreMarkedByCut namespace ordered views statements old now is_cut from after
        unfolding cut_at
        cut_here now after cuts = (
          cut_at now after cuts,
          (marks, reached.marked, subst (λ (w : Written). StandBy w (take cuts.made (next_changes namespace ordered w statement)) marks after) reached.carried_out cuts.marked),
        )

        -- with the statements after it, if it was carried out or refused
        with_behind : (due : Bool) (now : Written) (after : Marks) (behind : List Statement) (last : Marks) → DoesNext namespace ordered views due so_far statement marks now after
            → AreMarkedByEach namespace ordered views now behind after last → AreMarkedByEach namespace ordered views (nothing_written old) (reached.before ++ statement ∷ behind) from last
        with_behind due now after behind last next marked =
            let this = due_marked so_far statement marks after reached.due next.marked in
            each_append namespace ordered views (nothing_written old) reached.before (statement ∷ behind) from marks last reached.marked
            (subst (λ (w : Written). AreMarkedByEach namespace ordered views w (statement ∷ behind) marks last) reached.carried_out
            (after, this, subst (λ (w : Written). AreMarkedByEach namespace ordered views w behind after last) next.is_next marked))

        pub due_behind : (now : Written) (after : Marks) → NextStep namespace ordered views so_far statement marks (Ok Due) now after → Reached now after rest
        due_behind now after next = record {
          before = reached.before ++ statement ∷ [];
          stands = reached.stands ∙ sym (append_assoc reached.before (statement ∷ []) rest);
          carried_out = next.is_next ∙ ap (λ (w : Written). with_next namespace ordered w statement) reached.carried_out ∙ sym (with_all-append (nothing_written old) reached.before (statement ∷ []));
          due = next.behind;
          marked = with_behind true now after [] after next refl;
        }

        pub ends : (now : Written) (after : Marks) → NextStep namespace ordered views so_far statement marks (Ok Ended) now after → AreCarried now after
        ends now after next = (
          sym (with_all-stopped now rest next.behind)
              ∙ ap (λ (w : Written). with_all namespace ordered w rest) (next.is_next ∙ ap (λ (w : Written). with_next namespace ordered w statement) reached.carried_out)
              ∙ sym (with_all-append (nothing_written old) reached.before (statement ∷ rest)) ∙ ap (with_all namespace ordered (nothing_written old)) (sym reached.stands),
          subst (λ (ss : List Statement). AreMarkedByEach namespace ordered views (nothing_written old) ss from after) (sym reached.stands)
              (with_behind false now after rest after next (each_stopped namespace ordered views now rest after next.behind)),
        )

        pub counts : (now : Written) (after : Marks) → NextStep namespace ordered views so_far statement marks (Ok Due) now after → now.statements ≡ suc so_far.statements
        counts now after next = ap (λ (w : Written). w.statements) next.is_next ∙ rw reached.due (counts_result so_far _)

-- what an ended write answers
module _ (write : WriteSteps) (old new : Marked) (left : Written) where
  abbrev pub WholeOf : Type 0
  WholeOf = AreCarried write.namespace write.ordered old.state.views write.statements old.state.namespaces old.marks left new.marks

  abbrev pub CutOf : Type 0
  CutOf =
      (is_cut : IsCutWrite write old.state.namespaces left)
      × AreMarkedByCut write.namespace write.ordered old.state.views write.statements old.state.namespaces left is_cut old.marks new.marks

  whole_so : WholeOf → new.state.namespaces ≡ left.namespaces → CarriesOutWrite write old new
  whole_so (is, marked) leaves = record { leaves = leaves ∙ ap (λ (w : Written). w.namespaces) is; marked = marked }

  cut_so : CutOf → new.state.namespaces ≡ left.namespaces → CutsWrite write old left new
  cut_so (is_cut, marked) leaves = record { is_cut = is_cut; leaves = leaves; marked = marked }

  pub done_replied : (reply : List Field) → WholeOf → new.state.namespaces ≡ left.namespaces → reply ≡ reply_seen write left → WritesOrCuts write old (Reply reply) new
  done_replied reply whole leaves replies = (replies ∙ ap (reply_seen write) whole.0, whole_so whole leaves)

  pub done_untold : WholeOf → new.state.namespaces ≡ left.namespaces → WritesOrCuts write old NoReply new
  done_untold whole leaves = inl (whole_so whole leaves)

  pub cut_replied : (reply : List Field) → CutOf → new.state.namespaces ≡ left.namespaces → reply ≡ reply_seen write left → WritesOrCuts write old (Wanting reply) new
  cut_replied reply cuts leaves replies = (left, replies, cut_so cuts leaves)

  pub cut_untold : CutOf → new.state.namespaces ≡ left.namespaces → WritesOrCuts write old NoReply new
  cut_untold cuts leaves = inr (left, cut_so cuts leaves)
