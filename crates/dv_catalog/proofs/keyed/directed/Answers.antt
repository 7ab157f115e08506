use Rattle.std.proofs.Common.{ap, sym, ◌∙◌}
use Rattle.dv_index.specs.Inner.InDirection.{in_direction}
use Rattle.dv_pipe.specs.Sources.{rows_referred}
use Rattle.dv_catalog.proofs.Lent.{referred_reverse}
use Rattle.dv_catalog.proofs.keyed.directed.Goals as goal

pub returns-in-Descending : goal.returns-in-Descending
returns-in-Descending c =
    ap rows_referred c.reverse.ensures.items ∙ referred_reverse c.args.rows.items
    ∙ (λ i. in_direction (sym c.in-Descending.is i) (rows_referred c.args.rows.items))
