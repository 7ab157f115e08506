use Rattle.std.proofs.Common.{map, take}
use Rattle.dv_message.specs.Inner.SectionsView.{section_seen}
use Rattle.dv_message.proofs.Names.{AreKept}
use Rattle.dv_message.proofs.sections.are_apart.Given as goal

abbrev pub invariant-sections : goal.invariant-sections
invariant-sections l = AreKept (map section_seen (take l.section-index l.sections)) l.names.keys
