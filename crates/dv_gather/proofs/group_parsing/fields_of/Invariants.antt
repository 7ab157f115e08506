-- The fields so far, followed by those that the rest gives.
use Rattle.std.proofs.Common.{◌≡◌, map}
use Rattle.dv_value.specs.Results.{each}
use Rattle.dv_row.specs.Inner.EachLaws.{after_each}
use Rattle.dv_gather.specs.GroupParsing.{field_in}
use Rattle.dv_gather.specs.Inner.GroupView.{accumulation}
use Rattle.dv_gather.proofs.group_parsing.fields_of.Given as goal

abbrev pub invariant-fields : goal.invariant-fields
invariant-fields l = each field_in l.document ≡ after_each (map accumulation l.fields.items) (each field_in l.name-iterator)
