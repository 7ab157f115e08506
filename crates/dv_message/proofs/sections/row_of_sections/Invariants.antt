use Rattle.std.proofs.Common.{length, map}
use Rattle.dv_message.specs.Sections.{section_at}
use Rattle.dv_message.specs.Inner.SectionsView.{section_seen}
use Rattle.dv_message.proofs.Rows.{Comes}
use Rattle.dv_message.proofs.sections.row_of_sections.Given as goal

abbrev pub invariant-sections : goal.invariant-sections
invariant-sections l = Comes section_at l.bytes (map section_seen l.sections.items) l.rest

abbrev pub decreases-sections : goal.decreases-sections
decreases-sections l = length l.rest
