use Rattle.std.proofs.Common.{[], get_or, refl}
use Rattle.dv_views.proofs.Walked.{place_within, there_place, walk_begins, walk_below, walk_ends, walk_goes, walk_quiet}
use Rattle.dv_views.proofs.handing.lose_each.Goals as goal

pub views-init : goal.views-init
views-init c all = walk_begins c.args.namespace.now all c.args.places.now c.args.views.now.entries c.requires.places c.requires.apart c.requires.silent

pub lose_at-requires-clause-place : goal.lose_at-requires-clause-place
lose_at-requires-clause-place c =
    place_within c.args.namespace.now [] c.args.places.now c.args.views.now.entries c.requires.places c.views.place-index (get_or c.args.places.now c.views.place-index 0) c.views.views.entries (there_place (get_or c.args.places.now c.views.place-index 0) 0 c.args.places.now c.views.place-index c.views-test.true refl) (c.views.invariant [])

pub lose_at-requires-clause-apart : goal.lose_at-requires-clause-apart
lose_at-requires-clause-apart c = (c.views.invariant []).apart

pub views-preserved : goal.views-preserved
views-preserved c all =
    walk_goes c.args.namespace.now all c.args.places.now c.args.views.now.entries c.requires.places c.views.place-index (get_or c.args.places.now c.views.place-index 0) c.views.views.entries (there_place (get_or c.args.places.now c.views.place-index 0) 0 c.args.places.now c.views.place-index c.views-test.true refl) (c.views.invariant all) c.lose_at.new.views.entries (c.lose_at.ensures all)

pub fall_silent-requires-clause-places : goal.fall_silent-requires-clause-places
fall_silent-requires-clause-places c =
    walk_below c.args.namespace.now [] c.args.places.now c.args.views.now.entries c.requires.places c.views.place-index c.views.views.entries c.views-test.false (c.views.invariant [])

pub fall_silent-requires-clause-others : goal.fall_silent-requires-clause-others
fall_silent-requires-clause-others c =
    walk_quiet c.args.namespace.now [] c.args.places.now c.args.views.now.entries c.requires.places c.views.place-index c.views.views.entries c.views-test.false (c.views.invariant [])

pub returns : goal.returns
returns c all =
    walk_ends c.args.namespace.now all c.args.places.now c.args.views.now.entries c.requires.places c.views.place-index c.views.views.entries c.views-test.false (c.views.invariant all) c.fall_silent.new.views.entries c.fall_silent.ensures
