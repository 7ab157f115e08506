-- What the parts of a filter in memory represent.
use Rattle.dv_value.specs.View.{tree}
use Rattle.dv_match.specs.declared.form.Member.{Member}
use Rattle.dv_match.specs.declared.form.Member.TheVariants.{And, Or, Nor, At}
use Rattle.dv_match.specs.declared.form.Condition.{Condition}
use Rattle.dv_match.specs.declared.form.Condition.TheVariants.{Eq, Ne, Bound, In, Nin, Not, All, Exists, Size, ElemMatch}
use Rattle.dv_match.specs.declared.form.Test.{Test}
use Rattle.dv_match.specs.declared.form.Test.TheVariants.{Meets, Matches}
use Rattle.dv_match.specs.Filter as form

abbrev pub member : Member → form.Member
member (And fs) = form.all_of fs
member (Or fs) = form.any_of fs
member (Nor fs) = form.none_of fs
member (At path cs) = form.at_path path cs

abbrev pub test : Test → form.Test
test (Meets cs) = form.by_operators cs
test (Matches ms) = form.by_filter ms

abbrev pub condition : Condition → form.Condition
condition (Eq v) = form.equal (tree v)
condition (Ne v) = form.unequal (tree v)
condition (Bound r v) = form.in_range r (tree v)
condition (In vs) = form.among vs
condition (Nin vs) = form.not_among vs
condition (Not cs) = form.unmet cs
condition (All vs) = form.contains vs
condition (Exists b) = form.exists b
condition (Size n) = form.sized n
condition (ElemMatch t) = form.has_element (test t)
