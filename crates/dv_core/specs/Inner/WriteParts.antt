-- What the parts of a write give.
use Rattle.std.specs.Prelude.{◌≡◌, ℕ, suc, ◌+◌, ◌<◌, ◌⊎◌, Bool, true, false, List, [], ◌∷◌, ◌++◌, length, map, take, Result, Ok, Err, if◌then◌else◌, ⊤}
use Rattle.std.specs.declared.alloc.AllocError.{AllocError}
use Rattle.dv_value.specs.Tree.{Field}
use Rattle.dv_value.specs.View.{tree}
use Rattle.dv_refusal.specs.declared.refusal.Refusal.{Refusal}
use Rattle.dv_refusal.specs.declared.refusal.Refusal.TheVariants.{OnView, WantOfMemory}
use Rattle.dv_command.specs.Replies.{document_of, write_error, cut_error}
use Rattle.dv_core.specs.declared.outcome.Outcome.{Outcome}
use Rattle.dv_core.specs.declared.outcome.Outcome.TheVariants.{Reply, Wanting, NoReply}
use Rattle.dv_catalog.specs.declared.counts.Counted.{Counted}
use Rattle.dv_core.specs.declared.written.Written as declared
use Rattle.dv_core.specs.declared.next.Next.{Next}
use Rattle.dv_core.specs.declared.next.Next.TheVariants.{Due, Ended, Cut}
use Rattle.dv_catalog.specs.declared.failure.Stopped.{Stopped}
use Rattle.dv_catalog.specs.Marks.{AreMarkedBy, Marked, Marks}
use Rattle.dv_catalog.specs.State.{Namespaces, is_view, lists_of}
use Rattle.dv_core.specs.Marks.{AreMarkedByCut, AreMarkedByEach}
use Rattle.dv_views.specs.Forms.{ViewForm}
use Rattle.dv_core.specs.State.{State, marked}
use Rattle.dv_catalog.specs.Changes.{Statement}
use Rattle.dv_core.specs.Inner.StepParts.{Refuses}
use Rattle.dv_core.specs.Statements.{WriteSteps, Written, carry_out, nothing_written, with_next, is_due, next_changes, cut, IsCutWrite}

-- what statements did, and what they left
abbrev pub written_seen : declared.Written → Namespaces → Written
written_seen w namespaces = record { statements = w.statements; n = w.n; changed = w.changed; errors = map tree w.errors.items; namespaces = namespaces }

abbrev pub reply_seen : WriteSteps → Written → List Field
reply_seen write did = write.reply did.n did.changed did.errors

-- what was done after one more statement, which was carried out with these counts of matched and changed documents
abbrev pub with_counted : Written → Counted → Written
with_counted so_far counted =
    record so_far { statements = suc so_far.statements; n = so_far.n + counted.matched; changed = so_far.changed + counted.changed }

-- the error of a statement that was refused; if memory ran out, with the number of changes that were made
abbrev pub error_by : ℕ → Refusal → ℕ → List Field
error_by place WantOfMemory done = cut_error place done
error_by place refusal done = write_error place refusal

abbrev pub error_of : ℕ → Stopped → List Field
error_of place stopped = error_by place stopped.refusal stopped.done

-- what was done after one more statement, which was refused
abbrev pub with_stopped : Written → Stopped → Written
with_stopped so_far stopped =
    record { statements = suc so_far.statements; n = so_far.n; changed = so_far.changed; errors = so_far.errors ++ document_of (error_of so_far.statements stopped) ∷ []; namespaces = so_far.namespaces }

-- what comes after a statement that was refused
abbrev pub next_behind : Bool → Refusal → Next
next_behind ordered WantOfMemory = Cut
next_behind ordered refusal = if ordered then Ended else Due

-- a statement that was refused is noted, unless memory runs out
abbrev pub Notes : Bool → Stopped → Written → Result Next AllocError → Written → Type 0
Notes ordered stopped so_far (Ok next) now = (now ≡ with_stopped so_far stopped) × (next ≡ next_behind ordered stopped.refusal)
Notes ordered stopped so_far (Err e) now = ⊤

-- the outcome, or no reply if memory ran out for it
abbrev pub outcome_of : Result Outcome AllocError → Outcome
outcome_of (Ok outcome) = outcome
outcome_of (Err e) = NoReply

module _ (namespace : List ℕ) (ordered : Bool) (views : List ViewForm) where
  -- the next statement was carried out or refused; whether another one is due after it; and the marks after it
  pub record DoesNext (due : Bool) (so_far : Written) (statement : Statement) (before : Marks) (now : Written) (after : Marks) : Type 0 where
    pub is_next : now ≡ with_next namespace ordered so_far statement
    pub behind : is_due ordered now.errors ≡ due
    pub marked : AreMarkedBy namespace (next_changes namespace ordered so_far statement) (lists_of so_far.namespaces) views before after

  -- the next statement is cut after the first `made` of its changes
  pub record CutsNext (so_far : Written) (statement : Statement) (before : Marks) (now : Written) (after : Marks) : Type 0 where
    pub made : ℕ
    pub fewer : (made ≡ 0) ⊎ (made < length (next_changes namespace ordered so_far statement))
    pub is_cut : now ≡ cut namespace ordered made so_far statement
    pub marked : AreMarkedBy namespace (take made (next_changes namespace ordered so_far statement)) (lists_of so_far.namespaces) views before after

  -- The next statement, and whether another one is due after it: not if it was refused in an ordered command, and not if it was
  -- cut. If memory runs out for its error, it counts as cut, and the error is not noted.
  abbrev pub NextStep : Written → Statement → Marks → Result Next AllocError → Written → Marks → Type 0
  NextStep so_far statement before (Ok Due) now after = DoesNext true so_far statement before now after
  NextStep so_far statement before (Ok Ended) now after = DoesNext false so_far statement before now after
  NextStep so_far statement before (Ok Cut) now after = CutsNext so_far statement before now after
  NextStep so_far statement before (Err e) now after = (cuts : Written) × CutsNext so_far statement before cuts after × (now.namespaces ≡ cuts.namespaces)

-- the same for the store, and for what the code notes about the statements so far
abbrev pub WritesNext : List ℕ → Bool → Statement → declared.Written → Marked → Result Next AllocError → declared.Written → Marked → Type 0
WritesNext namespace ordered statement so_far old result now new =
    NextStep namespace ordered old.state.views (written_seen so_far old.state.namespaces) statement old.marks result (written_seen now new.state.namespaces) new.marks

-- the statements of a write as they are defined
pub record CarriesOutWrite (write : WriteSteps) (old new : Marked) : Type 0 where
  pub leaves : new.state.namespaces ≡ (carry_out write old.state.namespaces).namespaces
  pub marked : AreMarkedByEach write.namespace write.ordered old.state.views (nothing_written old.state.namespaces) write.statements old.marks new.marks

-- the statements of a write that is cut at one of them
pub record CutsWrite (write : WriteSteps) (old : Marked) (left : Written) (new : Marked) : Type 0 where
  pub is_cut : IsCutWrite write old.state.namespaces left
  pub leaves : new.state.namespaces ≡ left.namespaces
  pub marked : AreMarkedByCut write.namespace write.ordered old.state.views write.statements old.state.namespaces left is_cut old.marks new.marks

-- a write: the statements as they are defined, or cut at one of them; after either there may be no reply
abbrev pub WritesOrCuts : WriteSteps → Marked → Outcome → Marked → Type 0
WritesOrCuts write old (Reply reply) new = (reply ≡ reply_seen write (carry_out write old.state.namespaces)) × CarriesOutWrite write old new
WritesOrCuts write old (Wanting reply) new = (left : Written) × (reply ≡ reply_seen write left) × CutsWrite write old left new
WritesOrCuts write old NoReply new = CarriesOutWrite write old new ⊎ ((left : Written) × CutsWrite write old left new)

abbrev pub WritesWhere : Bool → WriteSteps → State → Outcome → State → Type 0
WritesWhere false write old outcome new =
    WritesOrCuts write (marked old) outcome (marked new) × (new.catalog.views ≡ old.catalog.views) × (new.cursors ≡ old.cursors)
WritesWhere true write old outcome new = Refuses OnView outcome × (new ≡ old)

-- a write on a collection; one on a view is refused
abbrev pub WritesOn : WriteSteps → State → Outcome → State → Type 0
WritesOn write old outcome new = WritesWhere (is_view write.namespace old.catalog.views) write old outcome new
