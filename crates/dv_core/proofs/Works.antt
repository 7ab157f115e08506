-- What stays unchanged when a task is carried out for a command, by the kind of task.
use Rattle.std.proofs.Common.{◌≡◌, Bool, true, false, if◌then◌else◌, List, Result, Ok, Err, refl}
use Rattle.dv_value.specs.Tree.{Field}
use Rattle.dv_catalog.specs.State.{is_view}
use Rattle.dv_catalog.specs.State as stored
use Rattle.dv_cursor.specs.Cursors.{Cursors}
use Rattle.dv_refusal.specs.declared.refusal.Refusal.{Refusal}
use Rattle.dv_core.specs.State.{State}
use Rattle.dv_core.specs.Step.{Answer, Task, answer_of, answered, making, moving, on_catalog, on_cursors, read_answer, telling, writing}

-- there are no cursors to move
abbrev pub MovesNone : Task → Type 0
MovesNone (moving result) = ⊥
MovesNone work = Unit {0}

module _ (state : State) where
  -- what a reply alone, a write, and a change of cursors or of collections and views leave unchanged
  read_cursors : (result : Result (List Field) Refusal) → (answered state (read_answer state result)).state.cursors ≡ state.cursors
  read_cursors (Ok reply) = refl
  read_cursors (Err refusal) = refl

  write_cursors : (b : Bool) (refusal : Refusal) (answer : Answer) → answer.state.cursors ≡ state.cursors → (answered state (if b then Err refusal else Ok answer)).state.cursors ≡ state.cursors
  write_cursors true refusal answer same = refl
  write_cursors false refusal answer same = same

  catalog_cursors : (result : Result (List Field × stored.State) Refusal) → (answered state (on_catalog state result)).state.cursors ≡ state.cursors
  catalog_cursors (Ok told) = refl
  catalog_cursors (Err refusal) = refl

  pub work_cursors : (work : Task) → MovesNone work → (answered state (answer_of state work)).state.cursors ≡ state.cursors
  work_cursors (telling result) none = read_cursors result
  work_cursors (writing write) none = write_cursors (is_view write.namespace state.catalog.views) _ _ refl
  work_cursors (moving result) none = absurd none
  work_cursors (making result) none = catalog_cursors result

  read_marks : (result : Result (List Field) Refusal) → (answered state (read_answer state result)).state.marks ≡ state.marks
  read_marks (Ok reply) = refl
  read_marks (Err refusal) = refl

  write_marks : (b : Bool) (refusal : Refusal) (answer : Answer) → answer.state.marks ≡ state.marks → (answered state (if b then Err refusal else Ok answer)).state.marks ≡ state.marks
  write_marks true refusal answer same = refl
  write_marks false refusal answer same = same

  cursors_marks : (result : Result (List Field × Cursors) Refusal) → (answered state (on_cursors state result)).state.marks ≡ state.marks
  cursors_marks (Ok told) = refl
  cursors_marks (Err refusal) = refl

  catalog_marks : (result : Result (List Field × stored.State) Refusal) → (answered state (on_catalog state result)).state.marks ≡ state.marks
  catalog_marks (Ok told) = refl
  catalog_marks (Err refusal) = refl

  pub work_marks : (work : Task) → (answered state (answer_of state work)).state.marks ≡ state.marks
  work_marks (telling result) = read_marks result
  work_marks (writing write) = write_marks (is_view write.namespace state.catalog.views) _ _ refl
  work_marks (moving result) = cursors_marks result
  work_marks (making result) = catalog_marks result
