-- The names so far have their lists.
use Rattle.std.proofs.Common.{List, ℕ, ◌∷◌, take}
use Rattle.dv_views.specs.Inner.Readers.{AreListed, listing_seen}
use Rattle.dv_views.specs.Inner.Seen.{view_seen}
use Rattle.dv_views.specs.Inner.Views.{view_form}
use Rattle.dv_views.proofs.Heights.{forms_of}
use Rattle.dv_views.proofs.readers.Readers.with.Given as goal

abbrev pub invariant-names : goal.invariant-names
invariant-names l = (name : List ℕ) → AreListed (forms_of l.views.entries) (view_form (view_seen name l.view)) (l.view.source ∷ take l.name-index l.name-items) (listing_seen l.lists.entries)
