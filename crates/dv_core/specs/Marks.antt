-- The marks of views after a command: the ticks of each live view, and which views are stale.
use Rattle.std.specs.Prelude.{◌≡◌, ◌⊎◌, ℕ, Bool, true, false, List, [], ◌∷◌, length, take, Result, Ok, Err, if◌then◌else◌}
use Rattle.dv_command.specs.Asked.{Asked, find, aggregate, create, drop, explain}
use Rattle.dv_command.specs.Asked as asking
use Rattle.dv_catalog.specs.Changes.{Change, Statement}
use Rattle.dv_catalog.specs.Marks.{AreMarkedBy, AreMarkedByDrop, ArePartlyRead, Marks, all_gone, marks_counted, marks_made, marks_read, marks_without, names_of_new}
use Rattle.dv_catalog.specs.State.{Namespaces, documents_of, is_collection, is_view, lists_of}
use Rattle.dv_catalog.specs.State as stored
use Rattle.dv_catalog.specs.Views.{created, dropped}
use Rattle.dv_refusal.specs.declared.refusal.Refusal.{Refusal}
use Rattle.dv_views.specs.Forms.{ViewForm, names_read}
use Rattle.dv_core.specs.State.{State}
use Rattle.dv_core.specs.Statements.{AreCut, WriteSteps, Written, is_due, next_changes, nothing_written, with_all, with_next}
use Rattle.dv_core.specs.Writes.{write_by}

-- each view has its mark, and there are no other marks
abbrev pub HasItsMarks : State → Type 0
HasItsMarks state = length state.marks ≡ length state.catalog.views

-- ---- writes: statements one after the other

module _ (namespace : List ℕ) (ordered : Bool) (views : List ViewForm) where
  -- the changes of the next statement, if the write hasn't ended
  abbrev pub due_changes : Written → Statement → List Change
  due_changes so_far statement = if is_due ordered so_far.errors then next_changes namespace ordered so_far statement else []

  -- the marks after these statements if no view becomes stale
  abbrev pub marks_written : Written → List Statement → Marks → Marks
  marks_written so_far [] marks = marks
  marks_written so_far (statement ∷ statements) marks =
      marks_written (with_next namespace ordered so_far statement) statements (marks_counted namespace (due_changes so_far statement) (lists_of so_far.namespaces) views marks)

  -- the marks that these statements may lead to; a view may become stale at any of them whose changes reach it
  abbrev pub AreMarkedByEach : Written → List Statement → Marks → Marks → Type 0
  AreMarkedByEach so_far [] before after = after ≡ before
  AreMarkedByEach so_far (statement ∷ statements) before after =
      (mid : Marks) × AreMarkedBy namespace (due_changes so_far statement) (lists_of so_far.namespaces) views before mid × AreMarkedByEach (with_next namespace ordered so_far statement) statements mid after

  -- the marks that these statements may lead to if memory runs out in one of them, after the changes that it has made
  abbrev pub AreMarkedByCut : (statements : List Statement) (old : Namespaces) (left : Written) → AreCut namespace ordered statements old left → Marks → Marks → Type 0
  AreMarkedByCut statements old left cut before after =
      let so_far = with_all namespace ordered (nothing_written old) cut.before in
      (mid : Marks) × AreMarkedByEach (nothing_written old) cut.before before mid
      × AreMarkedBy namespace (take cut.made (next_changes namespace ordered so_far cut.statement)) (lists_of so_far.namespaces) views mid after

-- ---- one command

-- the namespaces whose rows a command reads; the stale views that are needed for this are recomputed
abbrev pub read_by : Asked → List (List ℕ)
read_by (find asked) = asked.namespace ∷ []
read_by (aggregate asked) = names_read asked.stages asked.namespace
read_by (explain asked) = asked.find.namespace ∷ []
read_by (create asked) = names_of_new asked.view
read_by asked = []

-- the marks after these namespaces are read
abbrev pub marks_where_read : List (List ℕ) → State → Marks
marks_where_read [] old = old.marks
marks_where_read (name ∷ names) old = marks_read (name ∷ names) old.catalog.views old.marks

-- the new marks if the command succeeds, the old ones if it is refused
abbrev pub marks_where_made : Result stored.State Refusal → Marks → Marks → Marks
marks_where_made (Ok state) new old = new
marks_where_made (Err refusal) new old = old

-- the marks after a drop if no view becomes stale
abbrev pub marks_of_drop : List ℕ → stored.State → Marks → Marks
marks_of_drop namespace state marks =
    if is_collection namespace state.namespaces
    then marks_counted namespace (all_gone (documents_of namespace state.namespaces)) (lists_of state.namespaces) state.views marks
    else marks_without namespace state.views marks

-- the marks after a write if no view becomes stale; a write to a view changes nothing
abbrev pub marks_of_write : WriteSteps → State → Marks
marks_of_write write old =
    if is_view write.namespace old.catalog.views then old.marks
    else marks_written write.namespace write.ordered old.catalog.views (nothing_written old.catalog.namespaces) write.statements old.marks

-- the marks after a command if no view becomes stale
abbrev pub marks_behind : State → Asked → Marks
marks_behind old (asking.write asked) = marks_of_write (write_by asked) old
marks_behind old (create asked) = marks_where_made (created asked.namespace asked.view old.catalog) (marks_made asked.view old.catalog.views old.marks) old.marks
marks_behind old (drop asked) = marks_where_made (dropped asked.namespace old.catalog) (marks_of_drop asked.namespace old.catalog old.marks) old.marks
marks_behind old asked = marks_where_read (read_by asked) old

-- the marks that a write may lead to; one to a view is refused, and changes nothing
abbrev pub AreMarkedByWrite : Bool → WriteSteps → State → Marks → Type 0
AreMarkedByWrite true write old marks = marks ≡ old.marks
AreMarkedByWrite false write old marks = AreMarkedByEach write.namespace write.ordered old.catalog.views (nothing_written old.catalog.namespaces) write.statements old.marks marks

-- the marks that a drop may lead to; a refused one changes nothing
abbrev pub AreMarkedWhereDropped : Result stored.State Refusal → List ℕ → State → Marks → Type 0
AreMarkedWhereDropped (Ok state) namespace old marks = AreMarkedByDrop namespace old.catalog old.marks marks
AreMarkedWhereDropped (Err refusal) namespace old marks = marks ≡ old.marks

-- the marks that a command may lead to: a view may become stale only through changes that reach it
abbrev pub AreMarked : State → Asked → Marks → Type 0
AreMarked old (asking.write asked) marks = AreMarkedByWrite (is_view asked.namespace old.catalog.views) (write_by asked) old marks
AreMarked old (drop asked) marks = AreMarkedWhereDropped (dropped asked.namespace old.catalog) asked.namespace old marks
AreMarked old asked marks = marks ≡ marks_behind old asked

-- the marks after a command if no view becomes stale; one that is refused when it is parsed changes nothing
abbrev pub marks_behind_all : State → Result Asked Refusal → Marks
marks_behind_all old (Ok asked) = marks_behind old asked
marks_behind_all old (Err refusal) = old.marks

-- the marks that a command may lead to; one that is refused when it is parsed changes nothing
abbrev pub AreMarkedAll : State → Result Asked Refusal → Marks → Type 0
AreMarkedAll old (Ok asked) marks = AreMarked old asked marks
AreMarkedAll old (Err refusal) marks = marks ≡ old.marks

-- the marks that a command may lead to if it is refused because memory ran out: nothing has changed, except that some of the stale
-- views that it needs may have been recomputed
abbrev pub AreMarkedForWant : State → Result Asked Refusal → Marks → Type 0
AreMarkedForWant old (Ok asked) marks = (marks ≡ old.marks) ⊎ ArePartlyRead (read_by asked) old.catalog.views old.marks marks
AreMarkedForWant old (Err refusal) marks = marks ≡ old.marks
