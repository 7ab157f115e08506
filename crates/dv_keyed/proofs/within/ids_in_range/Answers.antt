use Rattle.std.proofs.Common.{◌∙◌, map}
use Rattle.dv_keyed.specs.Inner.Keys.{has_key}
use Rattle.dv_keyed.proofs.Ordered.{now}
use Rattle.dv_keyed.proofs.Ranges.{found-within}
use Rattle.dv_keyed.proofs.within.ids_in_range.Goals as goal

pub returns : goal.returns
returns c k i covered there =
    c.in_ok-add_ids_between.ensures i ∙ found-within c.in_ok-low.low c.in_ok-low.high k i c.args.index.now (has_key i (map now c.new-ids.result.items)) (c.in_ok-low.ensures.holds k covered) there
