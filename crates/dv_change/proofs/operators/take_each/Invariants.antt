-- Whatever it has taken in, it is about to take in the rest of the changes.
use Rattle.std.proofs.Common.{◌≡◌, List}
use Rattle.std.specs.List.{AllByRecursion}
use Rattle.std.specs.Vec.Iter.{into_iter_items}
use Rattle.dv_change.specs.declared.change.Change.{Change}
use Rattle.dv_change.specs.Changes.{Positioned}
use Rattle.dv_change.specs.Inner.Changes.{IsExactChange}
use Rattle.dv_change.specs.Inner.Fed.{IsUnderway}
use Rattle.dv_change.specs.Inner.Told.{told_along}
use Rattle.dv_change.proofs.operators.take_each.Given as goal

abbrev pub invariant-changes : goal.invariant-changes
invariant-changes g l =
    let operator = g.O.Operator in
    record {
      sound : operator.sound l.operator;
      makes : operator.makes l.operator ≡ operator.makes l.fn.operator;
      underway : (others : List Positioned) (left : Positioned) (changes : List Change) → operator.holds l.fn.operator others left → AllByRecursion IsExactChange changes → l.fn.all.items ≡ told_along left changes → IsUnderway (operator.makes l.fn.operator others) (operator.holds l.operator others) (into_iter_items l.taken-iterator) left changes l.fn.out.items l.out.items l.fn.ticks l.ticks;
    }
