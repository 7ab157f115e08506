use Rattle.std.proofs.Common.{◌≡◌, true, take}
use Rattle.std.specs.List.{list_any, list_all}
use Rattle.dv_value.specs.View.{tree}
use Rattle.dv_match.specs.Inner.Asked.{parts}
use Rattle.dv_match.specs.Match.{is_equal}
use Rattle.dv_match.proofs.matching.has_each.Given as goal

abbrev pub invariant-loop-value : goal.invariant-loop-value
invariant-loop-value l = list_all (λ v. list_any (is_equal (tree v)) (parts l.place)) (take l.value-index l.members) ≡ true
