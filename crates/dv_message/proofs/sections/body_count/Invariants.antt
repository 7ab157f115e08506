use Rattle.std.proofs.Common.{◌≡◌, ◌≤◌, map, take}
use Rattle.dv_message.specs.Sections.{body_count}
use Rattle.dv_message.specs.Inner.SectionsView.{section_seen}
use Rattle.dv_message.proofs.sections.body_count.Given as goal

abbrev pub invariant-sections : goal.invariant-sections
invariant-sections l = record {
  counted : l.count ≡ body_count (map section_seen (take l.section-index l.sections));
  few : l.count ≤ l.section-index;
}
