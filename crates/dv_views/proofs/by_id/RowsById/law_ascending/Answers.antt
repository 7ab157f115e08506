use Rattle.std.proofs.Common.{List, subst}
use Rattle.dv_coll.specs.Collection.{IsAscending}
use Rattle.dv_pipe.specs.Sources.{Row}
use Rattle.dv_views.proofs.Ranges.{ids_ascend}
use Rattle.dv_views.proofs.by_id.RowsById.law_ascending.Goals as goal

pub returns : goal.returns
returns c =
    subst (λ (ds : List Row). IsAscending ds) c.self.view_is (ids_ascend c.self.inside.live.now.rows.entries c.self.invariant.ids c.self.invariant.positioned.ascending)
