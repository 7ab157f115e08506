use denote.Shadow.{shadow}
use denote.Text.{Utf8}
use Rattle.std.proofs.Common.{map, take}
use Rattle.dv_message.specs.Inner.SectionsView.{section_seen}
use Rattle.dv_message.proofs.Brought.{IsNamed}
use Rattle.dv_message.proofs.commands.command_name_in.Given as goal

abbrev pub invariant-sections : goal.invariant-sections
invariant-sections l = shadow (Utf8 l.name) × IsNamed (map section_seen (take l.section-index l.sections)) l.name
