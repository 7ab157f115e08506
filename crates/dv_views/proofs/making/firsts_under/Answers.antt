use Rattle.std.proofs.Common.{Option, subst, sym}
use Rattle.dv_pipe.specs.Sources.{lists_of}
use Rattle.dv_views.specs.Inner.Made.{IsNoStale}
use Rattle.dv_views.specs.Inner.Older.{views_before}
use Rattle.dv_views.specs.Views.{View}
use Rattle.dv_views.proofs.Building.{list_placed, whatever}
use Rattle.dv_views.proofs.making.firsts_under.Goals as goal

pub firsts_of_view-requires : goal.firsts_of_view-requires
firsts_of_view-requires c = subst (λ (o : Option View). IsNoStale o) (sym c.in-Some.ensures.view) c.requires.live

pub returns-in-None-clause-placed : goal.returns-in-None-clause-placed
returns-in-None-clause-placed c =
    whatever c.firsts_of_documents.result
    (list_placed (views_before c.args.ground.now.place c.args.ground.now.views.now.entries) (lists_of c.args.ground.now.sources.now) c.args.name.now (sym c.in-None.ensures.view) c.requires.ordered)
