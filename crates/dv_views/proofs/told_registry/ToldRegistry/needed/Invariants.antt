-- The names so far are those that the views visited so far need for the first ones; the youngest view is visited first.
use Rattle.std.proofs.Common.{◌≡◌, ◌≤◌, drop, length, map}
use Rattle.dv_views.specs.Forms.{needed}
use Rattle.dv_views.specs.Inner.Views.{view_form}
use Rattle.dv_views.proofs.told_registry.ToldRegistry.needed.Given as goal

abbrev pub invariant-views : goal.invariant-views
invariant-views l = record {
  needed : l.needed.items ≡ needed (drop l.place (map view_form l.fn.self)) l.fn.names.items;
  within : l.place ≤ length l.fn.self;
}

abbrev pub decreases-views : goal.decreases-views
decreases-views l = l.place
