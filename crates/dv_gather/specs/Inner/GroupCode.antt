-- The form of a $group as a ghost value, one to one, so that a proof can distinguish two forms.
use Rattle.std.specs.Prelude.{ℕ, List, refl}
use Rattle.std.specs.Coded.{Coded, code_by, coded×, coded_list, coded_ℕ}
use Rattle.dv_row.specs.Expressions.{Expression}
use Rattle.dv_row.specs.Inner.ExpressionCode.{coded_expression}
use Rattle.dv_gather.specs.declared.accumulator.Accumulator.{Accumulator}
use Rattle.dv_gather.specs.contracts.accumulator.Accumulator as accumulators
use Rattle.dv_gather.specs.Grouping.{Accumulation, Grouping}

abbrev coded_accumulation : Coded Accumulation
coded_accumulation =
    code_by (List ℕ × (Accumulator × Expression)) (coded× (coded_list coded_ℕ) (coded× accumulators.the_row.coded coded_expression))
    (λ a. (a.name, (a.accumulator, a.argument))) (λ p. record { name = p.0; accumulator = p.1.0; argument = p.1.1 }) (λ _. refl)

abbrev pub coded_grouping : Coded Grouping
coded_grouping =
    code_by (Expression × List Accumulation) (coded× coded_expression (coded_list coded_accumulation))
    (λ g. (g.key, g.fields)) (λ p. record { key = p.0; fields = p.1 }) (λ _. refl)
