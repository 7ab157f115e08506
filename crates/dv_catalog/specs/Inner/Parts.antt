-- What the parts of a write, and of other commands that change something, guarantee.
use Rattle.std.specs.Prelude.{◌≡◌, ◌<◌, ◌⊎◌, ℕ, List, Option, length, take, Result, Ok, Err}
use Rattle.dv_command.specs.Asked.{ViewOn}
use Rattle.dv_refusal.specs.declared.refusal.Refusal.{Refusal}
use Rattle.dv_refusal.specs.declared.refusal.Refusal.TheVariants.{WantOfMemory}
use Rattle.dv_catalog.specs.declared.counts.Counted.{Counted}
use Rattle.dv_catalog.specs.declared.failure.Stopped.{Stopped}
use Rattle.dv_catalog.specs.State.{Namespaces, collection_of, lists_of}
use Rattle.dv_catalog.specs.Marks.{AreMarkedBy, ArePartlyRead, Marked, Marks, marks_made, marks_read, names_of_new}
use Rattle.dv_catalog.specs.Changes.{Change, Effect, Statement, apply, changes_of, done_to}

-- a statement that is refused changes nothing
pub record IsRefused (does : Result Effect Refusal) (old : Namespaces) (stopped : Stopped) (new : Namespaces) : Type 0 where
  pub so : does ≡ Err stopped.refusal
  pub none : stopped.done ≡ 0
  pub kept : new ≡ old

-- memory runs out after the first changes of a statement, and only these are made: not all of them, or none
pub record IsCut (namespace : List ℕ) (does : Result Effect Refusal) (old : Namespaces) (stopped : Stopped) (new : Namespaces) : Type 0 where
  pub so : stopped.refusal ≡ WantOfMemory
  pub fewer : (stopped.done ≡ 0) ⊎ (stopped.done < length (changes_of does))
  pub made : new ≡ apply namespace (take stopped.done (changes_of does)) old

-- a statement is carried out: its changes are made, and the result says how many documents it counts and how many changes it made;
-- or it is refused; or it is cut, since memory ran out
abbrev pub MakesSo : {B : Type 0} → (B → Counted) → List ℕ → Result Effect Refusal → Namespaces → Result B Stopped → Namespaces → Type 0
MakesSo counted namespace does old (Ok x) new =
    (changes : List Change) × (does ≡ Ok (record { matched = (counted x).matched; changes = changes })) × (length changes ≡ (counted x).changed) × (new ≡ apply namespace changes old)
MakesSo counted namespace does old (Err stopped) new = IsRefused does old stopped new ⊎ IsCut namespace does old stopped new

-- the same for a statement on the collection of a namespace
abbrev pub Makes : {B : Type 0} → (B → Counted) → List ℕ → Statement → Namespaces → Result B Stopped → Namespaces → Type 0
Makes counted namespace statement old result new = MakesSo counted namespace (done_to (collection_of namespace old) statement) old result new

-- the same if the result is the counts, for collections with views and their marks
abbrev pub MakesCounted : List ℕ → Statement → Marked → Result Counted Stopped → Marked → Type 0
MakesCounted namespace statement old result new = Makes (λ counted. counted) namespace statement old.state.namespaces result new.state.namespaces

-- one document and one change
abbrev pub one_changed : Counted
one_changed = record { matched = 1; changed = 1 }

-- the new state is the one that is defined; or there is the defined refusal, or memory ran out, and the state is unchanged
abbrev pub Leaves : {S B : Type 0} → Result S Refusal → S → Result B Refusal → S → Type 0
Leaves defined old (Ok x) new = defined ≡ Ok new
Leaves defined old (Err refusal) new = ((defined ≡ Err refusal) ⊎ (refusal ≡ WantOfMemory)) × (new ≡ old)

-- ---- the marks of views

-- the changes that a statement made: all of them, or the first ones if it stopped
abbrev pub changes_made : {B : Type 0} → Result Effect Refusal → Result B Stopped → List Change
changes_made does (Ok x) = changes_of does
changes_made does (Err stopped) = take stopped.done (changes_of does)

-- the marks that changes of the documents of a namespace may lead to
abbrev pub AreMarkedFrom : List ℕ → List Change → Marked → Marks → Type 0
AreMarkedFrom namespace changes old after = AreMarkedBy namespace changes (lists_of old.state.namespaces) old.state.views old.marks after

-- the marks that the effect of a statement on the collection of a namespace may lead to
abbrev pub StandBy : {B : Type 0} → List ℕ → Result Effect Refusal → Marked → Result B Stopped → Marks → Type 0
StandBy namespace does old result after = AreMarkedFrom namespace (changes_made does result) old after

-- the marks that a statement on the collection of a namespace may lead to
abbrev pub StandBehind : {B : Type 0} → List ℕ → Statement → Marked → Result B Stopped → Marks → Type 0
StandBehind namespace statement old result after = StandBy namespace (done_to (collection_of namespace old.state.namespaces) statement) old result after

-- a statement on the collection of a namespace that is cut: its first changes are made, and the marks are those that these may lead
-- to
pub record Cuts (namespace : List ℕ) (statement : Statement) (old : Marked) (stopped : Stopped) (new : Marked) : Type 0 where
  pub cut : IsCut namespace (done_to (collection_of namespace old.state.namespaces) statement) old.state.namespaces stopped new.state.namespaces
  pub views : new.state.views ≡ old.state.views
  pub marks : StandBehind {B = Counted} namespace statement old (Err stopped) new.marks

-- the marks after a command that may be refused: as `So` says if it is carried out, otherwise as before
abbrev pub StandSo : {B E : Type 0} → (Marks → Type 0) → Marks → Result B E → Marks → Type 0
StandSo So before (Ok x) after = So after
StandSo So before (Err e) after = after ≡ before

-- a read of the rows under some names changes nothing except that the stale views that it needs are recomputed; if memory runs out,
-- some of them may be
abbrev pub Reads : {B E : Type 0} → List (List ℕ) → Marked → Result B E → Marked → Type 0
Reads names old (Ok x) new = new ≡ record old { marks = marks_read names old.state.views old.marks }
Reads names old (Err e) new = (new.state ≡ old.state) × ArePartlyRead names old.state.views old.marks new.marks

-- the marks after the creation of a view over some names: `made` if it is created; if memory runs out, some of the stale views that
-- it needs may be recomputed; if it is refused for another reason, the marks are as before
abbrev pub StandMade : {B : Type 0} → List (List ℕ) → Marks → Marked → Result B Refusal → Marks → Type 0
StandMade names made old (Ok x) after = after ≡ made
StandMade names made old (Err refusal) after = ((refusal ≡ WantOfMemory) × ArePartlyRead names old.state.views old.marks after) ⊎ (after ≡ old.marks)

-- the marks after a create: of a view, or of an empty collection if no view is given
abbrev pub StandCreated : {B : Type 0} → Option ViewOn → Marked → Result B Refusal → Marks → Type 0
StandCreated view old result after = StandMade (names_of_new view) (marks_made view old.state.views old.marks) old result after
