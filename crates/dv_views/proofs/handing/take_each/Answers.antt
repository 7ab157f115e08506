use Rattle.std.proofs.Common.{get_or, refl}
use Rattle.dv_views.proofs.Walked.{place_within, there_place, walk_begins, walk_below, walk_ends, walk_goes, walk_quiet}
use Rattle.dv_views.proofs.handing.take_each.Goals as goal

pub views-init : goal.views-init
views-init c = walk_begins c.args.namespace.now c.args.all.now c.args.places.now c.args.views.now.entries c.requires.places c.requires.apart c.requires.silent

pub take_at-requires-clause-place : goal.take_at-requires-clause-place
take_at-requires-clause-place c =
    place_within c.args.namespace.now c.args.all.now c.args.places.now c.args.views.now.entries c.requires.places c.views.place-index (get_or c.args.places.now c.views.place-index 0) c.views.views.entries (there_place (get_or c.args.places.now c.views.place-index 0) 0 c.args.places.now c.views.place-index c.views-test.true refl) c.views.invariant

pub views-preserved : goal.views-preserved
views-preserved c =
    walk_goes c.args.namespace.now c.args.all.now c.args.places.now c.args.views.now.entries c.requires.places c.views.place-index (get_or c.args.places.now c.views.place-index 0) c.views.views.entries (there_place (get_or c.args.places.now c.views.place-index 0) 0 c.args.places.now c.views.place-index c.views-test.true refl) c.views.invariant c.take_at.new.views.entries c.take_at.ensures

pub fall_silent-requires-clause-places : goal.fall_silent-requires-clause-places
fall_silent-requires-clause-places c =
    walk_below c.args.namespace.now c.args.all.now c.args.places.now c.args.views.now.entries c.requires.places c.views.place-index c.views.views.entries c.views-test.false c.views.invariant

pub fall_silent-requires-clause-others : goal.fall_silent-requires-clause-others
fall_silent-requires-clause-others c =
    walk_quiet c.args.namespace.now c.args.all.now c.args.places.now c.args.views.now.entries c.requires.places c.views.place-index c.views.views.entries c.views-test.false c.views.invariant

pub returns : goal.returns
returns c =
    walk_ends c.args.namespace.now c.args.all.now c.args.places.now c.args.views.now.entries c.requires.places c.views.place-index c.views.views.entries c.views-test.false c.views.invariant c.fall_silent.new.views.entries c.fall_silent.ensures
