use Rattle.std.proofs.Common.{◌≡◌, ◌<◌, length, rules, sym}
use Rattle.dv_message.specs.Sections.{section_at}
use Rattle.dv_message.specs.Inner.SectionsView.{section_seen}
use Rattle.dv_message.proofs.Rows.{at_end, next_seen, fails}
use Rattle.dv_message.proofs.Frames.{sections_advance}
use Rattle.dv_message.proofs.sections.row_of_sections.Goals as goal

pub returns-in_default : goal.returns-in_default
returns-in_default c =
    let some : 0 < length c.sections.rest.now = search rules in
    fails section_at sections_advance c.args.bytes.now _ c.sections.rest.now c.sections.invariant (sym c.in_default.ensures) some

pub sections-smaller : goal.sections-smaller
sections-smaller c = sections_advance.shorter c.sections.rest.now (section_seen c.in-Some.section) c.in-Some.following.now (sym c.in-Some.ensures)

pub sections-preserved : goal.sections-preserved
sections-preserved c =
    next_seen section_at sections_advance section_seen c.args.bytes.now c.sections.sections.items c.push.new.self.items c.sections.rest.now c.in-Some.section c.in-Some.following.now
    c.sections.invariant (sym c.in-Some.ensures) c.in_ok-push.ensures.items

pub returns : goal.returns
returns c =
    let none : length c.sections.rest.now ≡ 0 = search rules in
    at_end section_at c.args.bytes.now _ c.sections.rest.now c.sections.invariant none
