use Rattle.std.proofs.Common.{◌+◌, ◌-◌, ◌*◌, ◌≤◌, ◌↔◌, drop}
use Rattle.dv_value.specs.Tree.{fields_of, elements_of}
use Rattle.dv_value.specs.Spelling.{fields_levels, elements_levels}
use Rattle.dv_value.proofs.limits.+within.Given as goal

abbrev pub decreases-value_within : goal.decreases-value_within
decreases-value_within l = 2 * l.limit + 1

abbrev pub decreases-document_within : goal.decreases-document_within
decreases-document_within l = 2 * l.limit

abbrev pub decreases-list_within : goal.decreases-list_within
decreases-list_within l = 2 * l.limit

-- the fields before are within the limit
abbrev pub invariant-document_within-loop-place : goal.invariant-document_within-loop-place
invariant-document_within-loop-place l = (fields_levels (fields_of (drop l.place l.document)) ≤ l.limit - 1) ↔ (fields_levels (fields_of l.document) ≤ l.limit - 1)

abbrev pub invariant-list_within-loop-value : goal.invariant-list_within-loop-value
invariant-list_within-loop-value l = (elements_levels (elements_of (drop l.value-index l.list)) ≤ l.limit - 1) ↔ (elements_levels (elements_of l.list) ≤ l.limit - 1)
