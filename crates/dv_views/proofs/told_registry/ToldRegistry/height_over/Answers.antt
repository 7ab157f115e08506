use Rattle.std.proofs.Common.{rules, ◌≡◌, ◌≤◌, ◌<◌, ◌^◌, length, arith}
use Rattle.dv_views.proofs.Heights.{highest_few, highest_found, highest_read}
use Rattle.dv_views.proofs.told_registry.ToldRegistry.height_over.Goals as goal

pub overflow_add-result : goal.overflow_add-result
overflow_add-result c =
    let es = c.self.inside.views.entries in
    let last : c.views.highest ≡ highest_read c.args.pipeline.now c.args.source.now 0 es = search rules in
    let few : highest_read c.args.pipeline.now c.args.source.now 0 es ≤ length es = highest_few es c.args.pipeline.now c.args.source.now c.self.invariant.heights in
    let fits : length es < 2 ^ 63 = c.into_iter-name-iterator.ensures.into_iter_gives.1 in
    omega (arith, last, few, fits)

pub returns : goal.returns
returns c =
    let es = c.self.inside.views.entries in
    let last : c.views.highest ≡ highest_read c.args.pipeline.now c.args.source.now 0 es = search rules in
    let found = highest_found es c.args.self.now c.args.pipeline.now c.args.source.now c.self.view_is c.self.invariant.heights in
    omega (arith, last, found)
