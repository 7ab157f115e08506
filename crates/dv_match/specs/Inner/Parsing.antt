-- What only bodies and proofs need of `Parsing`.
use Rattle.std.specs.Prelude.{ℕ, List, Result}
use Rattle.dv_value.specs.Tree.{Tree}
use Rattle.dv_match.specs.declared.fault.FilterFault.{FilterFault}
use Rattle.dv_match.specs.Filter.{Condition}
use Rattle.dv_match.specs.Parsing.{condition_by, negated_in, operator_named, test_in}

-- the condition of an operator's name and its operand
abbrev pub condition_named : List ℕ → Tree → Result Condition FilterFault
condition_named name v = condition_by (operator_named name) v (negated_in v) (test_in v)
