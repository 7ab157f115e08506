use Rattle.std.proofs.Common.{[], sym, ◌∙◌}
use Rattle.dv_views.proofs.Losing.{reached_whatever}
use Rattle.dv_views.proofs.Marked.{alone_at, stale_at}
use Rattle.dv_views.proofs.passing.lose_at.Goals as goal

pub returns-then-not-is_reached : goal.returns-then-not-is_reached
returns-then-not-is_reached c all =
    let namespace = c.args.namespace.now in
    let es = c.args.views.now.entries in
    let view = c.index_mut.result.now in
    alone_at namespace all c.args.place es c.requires.apart view c.index_mut.ensures.value c.leave.new.self
    (sym c.if-not-is_reached.true ∙ c.is_reached.ensures view c.index_mut.ensures.value ∙ reached_whatever namespace [] all c.args.place es view.stages view.source) c.leave.ensures

pub returns : goal.returns
returns c all =
    let namespace = c.args.namespace.now in
    let es = c.args.views.now.entries in
    let view = c.index_mut-2.result.now in
    stale_at namespace all c.args.place es c.requires.apart view c.index_mut-2.ensures.value c.take_out.new.self
    (sym c.if-not-is_reached.false ∙ c.is_reached.ensures view c.index_mut-2.ensures.value ∙ reached_whatever namespace [] all c.args.place es view.stages view.source) c.take_out.ensures.left
