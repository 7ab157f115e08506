use Rattle.std.proofs.Common.{◌∙◌, sym}
use Rattle.dv_views.proofs.Before.{none_before, one_before, one_behind}
use Rattle.dv_views.proofs.older.place_before.Goals as goal

pub returns-in_err-found : goal.returns-in_err-found
returns-in_err-found c = c.from_residual.ensures ∙ none_before c.args.name.now c.args.place c.args.views.now.entries (sym c.in_err-found.ensures.index)

pub returns-then-found-place : goal.returns-then-found-place
returns-then-found-place c = one_before c.args.name.now c.args.place c.in_ok-found.found c.args.views.now.entries (sym c.in_ok-found.ensures.index) c.if-found-place.true

pub returns-else-found-place : goal.returns-else-found-place
returns-else-found-place c = one_behind c.args.name.now c.args.place c.in_ok-found.found c.args.views.now.entries (sym c.in_ok-found.ensures.index) c.if-found-place.false
