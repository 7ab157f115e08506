use Rattle.std.proofs.Common.{◌∙◌, List, ap, filter}
use Rattle.std.specs.BTreeMap.Range.{range_contains}
use Rattle.dv_order.specs.Key.{key_order}
use Rattle.dv_coll.specs.Collection.{id_key}
use Rattle.dv_coll.specs.Inner.Walk.{walked}
use Rattle.dv_pipe.specs.Sources.{Row}
use Rattle.dv_views.proofs.Ranges.{found_between, runs_forward}
use Rattle.dv_views.proofs.by_id.RowsById.walk.Goals as goal

pub between-requires : goal.between-requires
between-requires c = runs_forward c.args.low c.args.high c.in_ok-start.start c.in_ok-end.end c.in_ok-start.ensures c.in_ok-end.ensures c.requires

pub returns : goal.returns
returns c =
    found_between c.args.is_backwards c.args.low c.args.high c.in_ok-start.start c.in_ok-end.end c.self.inside.live.now.rows.entries c.between.result c.in_ok-start.ensures c.in_ok-end.ensures c.self.invariant.ids c.between.ensures
    ∙ ap (λ (ds : List Row). walked c.args.is_backwards (filter (λ d. range_contains key_order c.args.low c.args.high (id_key d)) ds)) c.self.view_is
