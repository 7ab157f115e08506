use Rattle.std.proofs.Common.{ap, ◌∙◌, sym}
use Rattle.dv_views.specs.Inner.Turned.{known_at}
use Rattle.dv_views.specs.Inner.Older.{told_else}
use Rattle.dv_views.proofs.Before.{told_here, told_nowhere}
use Rattle.dv_views.proofs.passing.Passing.told.Goals as goal

pub returns-in-Some : goal.returns-in-Some
returns-in-Some c = c.told.ensures ∙ ap (λ t. told_else t (known_at c.args.self.now.namespace.now c.args.self.now.all.now c.args.name.now)) c.in-Some.ensures.told

pub returns-in-None : goal.returns-in-None
returns-in-None c = told_here c.args.name.now c.args.self.now.namespace.now c.args.self.now.all.now c.args.self.now.place c.args.self.now.views.now.entries (sym c.in-None.ensures.told) (sym c.if-eq.ensures)

pub returns-in-None-2 : goal.returns-in-None-2
returns-in-None-2 c = told_nowhere c.args.name.now c.args.self.now.namespace.now c.args.self.now.all.now c.args.self.now.place c.args.self.now.views.now.entries (sym c.in-None-2.ensures.told) (sym c.if-eq.ensures)
