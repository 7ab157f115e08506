-- no rule so far is of the name
use Rattle.std.proofs.Common.{◌≡◌, drop, map}
use Rattle.dv_command.specs.Fields as fields
use Rattle.dv_command.specs.Inner.RulesView.{rule_seen}
use Rattle.dv_command.proofs.rules.kind_in.Given as goal

abbrev pub invariant-rules : goal.invariant-rules
invariant-rules l = fields.kind_in (map rule_seen l.fn.rules) l.fn.name ≡ fields.kind_in (map rule_seen (drop l.rule-index l.fn.rules)) l.fn.name
