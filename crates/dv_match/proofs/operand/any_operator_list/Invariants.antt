use Rattle.std.proofs.Common.{◌≡◌, false, take}
use Rattle.std.specs.List.{list_any}
use Rattle.dv_value.specs.View.{tree}
use Rattle.dv_match.specs.Parsing.{is_operator_list}
use Rattle.dv_match.proofs.operand.any_operator_list.Given as goal

abbrev pub invariant-loop-value : goal.invariant-loop-value
invariant-loop-value l = list_any (λ v. is_operator_list (tree v)) (take l.value-index l.value-items) ≡ false
