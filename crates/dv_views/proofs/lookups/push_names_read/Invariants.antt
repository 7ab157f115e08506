-- The names so far are after the others.
use Rattle.std.proofs.Common.{◌≡◌, ◌++◌, ◌∷◌, take}
use Rattle.dv_views.specs.Placed.{lookups_of}
use Rattle.dv_views.proofs.lookups.push_names_read.Given as goal

abbrev pub invariant-lists : goal.invariant-lists
invariant-lists l = l.names.items ≡ l.fn.names.items ++ l.view.source ∷ take l.name-index (lookups_of l.view.stages l.view.source)
