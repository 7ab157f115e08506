-- The lists so far have the view.
use Rattle.std.proofs.Common.{List, ℕ}
use Rattle.dv_views.specs.Inner.Readers.{listing_seen}
use Rattle.dv_views.specs.Inner.Seen.{view_seen}
use Rattle.dv_views.specs.Inner.Views.{view_form}
use Rattle.dv_views.proofs.Heights.{forms_of}
use Rattle.dv_views.proofs.Listed.{HaveView}
use Rattle.dv_views.proofs.readers.Readers.lists_with.Given as goal

abbrev pub invariant-lists : goal.invariant-lists
invariant-lists l = (name : List ℕ) → HaveView (forms_of l.views.entries) (view_form (view_seen name l.view)) (listing_seen l.namespace-iterator) (listing_seen l.lists.entries)
