-- Whatever changes insert its first rows, it is about to take in the rest of them.
use Rattle.std.proofs.Common.{◌≡◌, List, []}
use Rattle.std.specs.List.{AllByRecursion}
use Rattle.std.specs.Vec.Iter.{into_iter_items}
use Rattle.dv_change.specs.declared.change.Change.{Change}
use Rattle.dv_change.specs.Changes.{Positioned}
use Rattle.dv_change.specs.Inner.Changes.{IsExactChange}
use Rattle.dv_change.specs.Inner.Fed.{IsUnderway}
use Rattle.dv_change.specs.Inner.Told.{told_along}
use Rattle.dv_change.proofs.operator.Operator.fill.Given as goal

abbrev pub invariant-changes : goal.invariant-changes
invariant-changes g l =
    let operator = g.Self.Operator in
    record {
      sound : operator.sound l.self;
      makes : operator.makes l.self ≡ operator.makes l.fn.self;
      underway : (others : List Positioned) (changes : List Change) → operator.holds l.fn.self others [] → AllByRecursion IsExactChange changes → l.fn.all.items ≡ told_along [] changes → IsUnderway (operator.makes l.fn.self others) (operator.holds l.self others) (into_iter_items l.taken-iterator) [] changes [] l.made.items 0 l.ticks;
    }
