-- nothing is wrong with the fields so far
use Rattle.std.proofs.Common.{◌≡◌, map}
use Rattle.dv_command.specs.Fields as fields
use Rattle.dv_command.specs.Inner.RulesView.{place_seen, rule_seen}
use Rattle.dv_command.proofs.rules.check_fields.Given as goal

abbrev pub invariant-fields : goal.invariant-fields
invariant-fields l =
    fields.check_fields (place_seen l.fn.place) (map rule_seen l.fn.rules) l.fn.document ≡ fields.check_fields (place_seen l.fn.place) (map rule_seen l.fn.rules) l.name-iterator
