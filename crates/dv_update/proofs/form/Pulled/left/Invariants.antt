-- The elements that stay so far, and the rest that is still to be tested.
use Rattle.std.proofs.Common.{◌≡◌, ◌++◌, map, drop}
use Rattle.dv_value.specs.View.{tree}
use Rattle.dv_update.specs.Apply.{left}
use Rattle.dv_update.specs.View.{pulled}
use Rattle.dv_update.proofs.form.Pulled.left.Given as goal

abbrev pub invariant-elements : goal.invariant-elements
invariant-elements l = left (pulled l.self) (map tree l.element-items) ≡ map tree l.left.items ++ left (pulled l.self) (map tree (drop l.element-index l.element-items))
