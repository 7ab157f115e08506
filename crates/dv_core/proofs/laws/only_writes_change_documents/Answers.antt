use Rattle.dv_core.specs.State.{standing}
use Rattle.dv_core.proofs.Bare.{bare}
use Rattle.dv_core.proofs.Changed.{others_leave, cursors_stay, views_stay}
use Rattle.dv_core.proofs.Made.{create_leaves, drop_leaves, indexing_leaves}
use Rattle.dv_core.proofs.Marked.{unasked_leaves}
use Rattle.dv_core.proofs.laws.only_writes_change_documents.Goals as goal

pub returns-clause-others : goal.returns-clause-others
returns-clause-others c asked none idle old new session command outcome asks steps = others_leave old (standing old.marks new) session command asked outcome asks none idle (bare old new session command outcome steps)

pub returns-clause-cursors : goal.returns-clause-cursors
returns-clause-cursors c asked idle old new session command outcome asks steps = cursors_stay old (standing old.marks new) session command asked outcome asks idle (bare old new session command outcome steps)

pub returns-clause-refused : goal.returns-clause-refused
returns-clause-refused c refusal old new session command = unasked_leaves old new session command refusal

pub returns-clause-views : goal.returns-clause-views
returns-clause-views c asked idle old new session command outcome asks steps = views_stay old (standing old.marks new) session command asked outcome asks idle (bare old new session command outcome steps)

pub returns-clause-created : goal.returns-clause-created
returns-clause-created c asked namespace old new session command outcome asks steps = create_leaves old (standing old.marks new) session command asked outcome asks (bare old new session command outcome steps) namespace

pub returns-clause-dropped : goal.returns-clause-dropped
returns-clause-dropped c asked namespace apart old new session command outcome asks steps = drop_leaves old (standing old.marks new) session command asked outcome asks (bare old new session command outcome steps) namespace apart

pub returns-clause-indexed : goal.returns-clause-indexed
returns-clause-indexed c asked index = (
  λ old new session command outcome asks steps. (indexing_leaves old (standing old.marks new) session command asked outcome asks index (bare old new session command outcome steps)).0,
  λ namespace old new session command outcome asks steps. (indexing_leaves old (standing old.marks new) session command asked outcome asks index (bare old new session command outcome steps)).1 namespace,
)
