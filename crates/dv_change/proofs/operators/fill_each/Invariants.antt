-- The changes that they have returned so far for their first rows lead from no rows to their result.
use Rattle.std.proofs.Common.{◌≡◌, List, []}
use Rattle.std.specs.List.{AllByRecursion}
use Rattle.std.specs.Vec.Iter.{into_iter_items}
use Rattle.dv_change.specs.declared.change.Change.{Change}
use Rattle.dv_change.specs.Inner.Changes.{IsExactChange}
use Rattle.dv_change.specs.Inner.Fed.{AreFilling, AreHeld}
use Rattle.dv_change.specs.Inner.Told.{told_along}
use Rattle.dv_change.specs.Work.{Transform}
use Rattle.dv_change.proofs.operators.fill_each.Given as goal

abbrev pub invariant-changes : goal.invariant-changes
invariant-changes g l =
    let o = g.O.Operator in
    record {
      sound : AllByRecursion o.sound l.operators;
      filling : (forms : List Transform) (changes : List Change) → AreHeld o.makes o.holds l.fn.operators forms [] → AllByRecursion IsExactChange changes → l.fn.all.items ≡ told_along [] changes → AreFilling o.makes o.holds l.operators forms (into_iter_items l.taken-iterator) changes l.made.items;
    }
