use Rattle.std.proofs.Common.{◌+◌, List, map, take, subst, rules}
use Rattle.std.proofs.lemmas.List.{take_all}
use Rattle.dv_message.specs.declared.sections.Section as declared
use Rattle.dv_message.specs.Inner.SectionsView.{framed_seen, section_seen}
use Rattle.dv_message.proofs.Reading.{taken_is}
use Rattle.dv_message.proofs.Brought.{IsNamed, not_named, named_by_body, named_before, is_named}
use Rattle.dv_message.proofs.commands.command_name_in.Goals as goal
use Rattle.dv_message.proofs.commands.command_name_in.Goals.{in-Body, in-Named}

pub sections-init : goal.sections-init
sections-init c = (search rules, not_named)

pub sections-preserved : goal.sections-preserved
sections-preserved c =
    let xs = c.args.sections.now in
    let i = c.sections.section-index in
    elim c.match-section.branch [
      | in-Body w ↦
          rw w.name-is
          (search rules, named_by_body (map section_seen (take i xs)) (map section_seen (take (i + 1) xs)) w.first_name_in-name.result.now w.in-Body.document.now (taken_is section_seen xs i _ _ c.sections-test.true w.in-Body.is) w.first_name_in-name.ensures)
      | in-Named w ↦
          rw w.name-is
          (c.sections.invariant.0, named_before (map section_seen (take i xs)) (map section_seen (take (i + 1) xs)) c.sections.name.now w.in-Named.name.now (framed_seen w.in-Named.documents) (taken_is section_seen xs i _ _ c.sections-test.true w.in-Named.is) c.sections.invariant.1)
    ]

pub returns : goal.returns
returns c =
    let xs = c.args.sections.now in
    let all = subst (λ (ss : List declared.Section). IsNamed (map section_seen ss) c.sections.name.now) (take_all c.sections.section-index xs c.sections-test.false) c.sections.invariant.1 in
    is_named (map section_seen xs) c.sections.name.now all
