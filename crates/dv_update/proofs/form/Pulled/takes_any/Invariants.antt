-- No element so far is removed.
use Rattle.std.proofs.Common.{◌≡◌, map, drop}
use Rattle.std.specs.List.{list_any}
use Rattle.dv_value.specs.View.{tree}
use Rattle.dv_update.specs.Apply.{is_pulled}
use Rattle.dv_update.specs.View.{pulled}
use Rattle.dv_update.proofs.form.Pulled.takes_any.Given as goal

abbrev pub invariant-loop-element : goal.invariant-loop-element
invariant-loop-element l = list_any (is_pulled (pulled l.self)) (map tree l.element-items) ≡ list_any (is_pulled (pulled l.self)) (map tree (drop l.element-index l.element-items))
