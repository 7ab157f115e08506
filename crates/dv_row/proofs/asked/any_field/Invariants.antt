use Rattle.std.proofs.Common.{◌≡◌, ◌∷◌, [], false, map, take}
use Rattle.std.specs.List.{list_any}
use Rattle.dv_row.specs.ExpressionView.{named}
use Rattle.dv_row.specs.ProjectParsing.{one_begins}
use Rattle.dv_row.proofs.asked.any_field.Given as goal

abbrev pub invariant-fields : goal.invariant-fields
invariant-fields l = list_any (λ c. one_begins l.path (c.0 ∷ [])) (map named (take l.field-index l.fields)) ≡ false
