use Rattle.std.proofs.Common.{ap, sym, ◌∙◌}
use Rattle.dv_views.specs.Inner.Filled.{firsts_of}
use Rattle.dv_views.specs.Inner.Ground.{outs_of_mark}
use Rattle.dv_views.specs.Inner.ResultLaws.{ok_then}
use Rattle.dv_views.proofs.Building.{live_placed, whatever}
use Rattle.dv_views.proofs.making.firsts_of_view.Goals as goal

pub returns-clause-firsts : goal.returns-clause-firsts
returns-clause-firsts c = ok_then c.firsts_of_rows.result c.firsts_of_rows.ensures (λ firsts is. is ∙ ap firsts_of (sym (ap outs_of_mark c.in-Some.ensures.kept)))

pub returns-clause-placed : goal.returns-clause-placed
returns-clause-placed c = whatever c.firsts_of_rows.result (live_placed c.args.view.now.mark c.in-Some.rows.now c.in-Some.ensures.kept c.in-Some.ensures.sound)
