use Rattle.std.proofs.Common.{map, take}
use Rattle.dv_command.specs.ListsView.{list_seen}
use Rattle.dv_message.specs.Inner.SectionsView.{section_seen}
use Rattle.dv_message.proofs.Brought.{AreKept}
use Rattle.dv_message.proofs.commands.read_several.Given as goal

abbrev pub invariant-sections : goal.invariant-sections
invariant-sections l = AreKept l.command (map section_seen (take l.section-index l.sections)) l.body (map list_seen l.lists.items)
