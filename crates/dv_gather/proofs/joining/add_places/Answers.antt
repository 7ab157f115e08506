use Rattle.std.proofs.Common.{◌∙◌}
use Rattle.std.specs.BTreeSet.{contains}
use Rattle.std.specs.Ordering.{nat_cmp}
use Rattle.dv_gather.proofs.Placed.{place-added}
use Rattle.dv_gather.proofs.joining.add_places.Goals as goal

pub places-preserved : goal.places-preserved
places-preserved c = λ i.
    let ps = c.args.places.now in
    place-added ps c.places.place-index i (contains nat_cmp c.places.found i) _ c.places-test.true (c.in_ok-insert.ensures.updates.0 i) ∙ c.places.invariant i
