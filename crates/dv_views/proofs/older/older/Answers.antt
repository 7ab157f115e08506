use Rattle.std.proofs.Common.{take, ap, ◌∙◌, sym}
use Rattle.std.specs.Option.{option_map}
use Rattle.dv_views.specs.Inner.Seen.{view_seen}
use Rattle.dv_views.proofs.Before.{no_view_before, none_told_before, place_within, told_before_at, view_before}
use Rattle.dv_views.proofs.older.older.Goals as goal

pub returns-in_err-found-clause-view : goal.returns-in_err-found-clause-view
returns-in_err-found-clause-view c = ap (option_map (λ view. view_seen c.args.name.now view.now)) c.from_residual.ensures ∙ sym (no_view_before c.args.name.now (take c.args.place c.args.views.now.entries) (sym c.in_err-found.ensures))

pub returns-in_err-found-clause-told : goal.returns-in_err-found-clause-told
returns-in_err-found-clause-told c = ap (option_map (λ view. view.now.told)) c.from_residual.ensures ∙ sym (none_told_before c.args.name.now (take c.args.place c.args.views.now.entries) (sym c.in_err-found.ensures))

pub index-requires : goal.index-requires
index-requires c = place_within c.args.name.now c.args.place c.in_ok-found.found c.args.views.now.entries (sym c.in_ok-found.ensures)

pub returns-clause-view : goal.returns-clause-view
returns-clause-view c = sym (view_before c.args.name.now c.args.place c.in_ok-found.found c.args.views.now.entries c.index.result.now (sym c.in_ok-found.ensures) c.index.ensures)

pub returns-clause-told : goal.returns-clause-told
returns-clause-told c = sym (told_before_at c.args.name.now c.args.place c.in_ok-found.found c.args.views.now.entries c.index.result.now (sym c.in_ok-found.ensures) c.index.ensures)
