-- A part of a filter is smaller than what it is in.
use Rattle.std.specs.Prelude.{◌≤◌, ◌+◌, List, [], ◌∷◌, map}
use Rattle.std.proofs.Common.{arith}
use denote.Param.Weighed.{most}
use Rattle.dv_match.specs.declared.form.Member.{Member}
use Rattle.dv_match.specs.declared.form.Member.TheVariants.{And, Or, Nor, At}
use Rattle.dv_match.specs.declared.form.Condition.{Condition}
use Rattle.dv_match.specs.declared.form.Condition.TheVariants.{Eq, Ne, Bound, In, Nin, Not, All, Exists, Size, ElemMatch}
use Rattle.dv_match.specs.declared.form.Test.{Test}
use Rattle.dv_match.specs.declared.form.Test.TheVariants.{Meets, Matches}
use Rattle.dv_match.specs.declared.form.Conditions.TheDeep.{deep-Member, deep-Condition, deep-Test}
use Rattle.dv_match.specs.Filter.{Members, members_of, filters_of, conditions_of}
use Rattle.dv_match.specs.Inner.Filter.{member_weight, members_weight, filters_weight, condition_weight, conditions_weight, test_weight}
use Rattle.dv_match.specs.View.{member, condition, test}

member_falls : (m : Member) → deep-Member m ≤ member_weight (member m)
member_falls (And fs) = omega arith
member_falls (Or fs) = omega arith
member_falls (Nor fs) = omega arith
member_falls (At path cs) = omega arith

test_falls : (t : Test) → deep-Test t ≤ test_weight (test t)
test_falls (Meets cs) = omega arith
test_falls (Matches ms) = omega arith

condition_falls : (c : Condition) → deep-Condition c ≤ condition_weight (condition c)
condition_falls (Eq v) = omega arith
condition_falls (Ne v) = omega arith
condition_falls (Bound r v) = omega arith
condition_falls (In vs) = omega arith
condition_falls (Nin vs) = omega arith
condition_falls (Not cs) = omega arith
condition_falls (All vs) = omega arith
condition_falls (Exists b) = omega arith
condition_falls (Size n) = omega arith
condition_falls (ElemMatch t) = omega (arith, test_falls t)

pub members_fall : (ms : List Member) → most deep-Member ms ≤ members_weight (members_of (map member ms))
members_fall [] = omega arith
members_fall (m ∷ ms) = omega (arith, member_falls m, members_fall ms)

pub filters_fall : (fs : List Members) → most (λ f. members_weight f + 1) fs ≤ filters_weight (filters_of fs)
filters_fall [] = omega arith
filters_fall (f ∷ fs) = omega (arith, filters_fall fs)

pub conditions_fall : (cs : List Condition) → most deep-Condition cs ≤ conditions_weight (conditions_of (map condition cs))
conditions_fall [] = omega arith
conditions_fall (c ∷ cs) = omega (arith, condition_falls c, conditions_fall cs)
