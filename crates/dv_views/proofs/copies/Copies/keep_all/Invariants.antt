-- What is kept is still what the lists hold, and the sources of the names that are left are in order.
use Rattle.std.proofs.Common.{drop}
use Rattle.std.specs.List.{AllByRecursion}
use Rattle.dv_pipe.specs.Sources.{lists_of}
use Rattle.dv_views.specs.Inner.Copies.{AreCopies}
use Rattle.dv_views.specs.Inner.Made.{StillHolds}
use Rattle.dv_views.specs.Inner.Views.{AreInOrder}
use Rattle.dv_views.proofs.copies.Copies.keep_all.Given as goal

abbrev pub invariant-names : goal.invariant-names
invariant-names l = record {
  ordered : AllByRecursion (λ n. AreInOrder (lists_of l.sources n)) (drop l.name-index l.names);
  copies : StillHolds AreCopies l.names (lists_of l.sources) l.fn.self l.self;
}
