use Rattle.std.proofs.Common.{◌+◌, map, take, drop, sym, ◌∙◌}
use Rattle.dv_message.specs.Inner.SectionsView.{framed_seen, section_seen}
use Rattle.dv_message.proofs.Frames.{not_true}
use Rattle.dv_message.proofs.Reading.{taken_is, parts_are}
use Rattle.dv_message.proofs.Names.{not_new, body_passed, name_passed, name_again}
use Rattle.dv_message.proofs.sections.are_apart.Goals as goal
use Rattle.dv_message.proofs.sections.are_apart.Goals.{in-Body, in-Named+in_ok-insert-in-Named+else-not-branch}

pub returns-then-not-branch : goal.returns-then-not-branch
returns-then-not-branch c =
    let i = c.sections.section-index in
    let xs = c.args.sections.now in
    let seen = parts_are section_seen xs i _ _ c.sections-test.true c.in-Named.is in
    sym (name_again (map section_seen (take i xs)) c.sections.names.keys c.in-Named.name (framed_seen c.in-Named.documents) c.sections.invariant
    (map section_seen xs) (map section_seen (drop (i + 1) xs)) seen (not_new _ (sym c.in_ok-insert-in-Named.ensures.added ∙ c.if-not-branch.true)))

pub sections-preserved : goal.sections-preserved
sections-preserved c =
    let i = c.sections.section-index in
    let xs = c.args.sections.now in
    elim c.match-section.branch [
      | in-Body w ↦
          rw w.names-is
          (body_passed (map section_seen (take i xs)) (map section_seen (take (i + 1) xs)) c.sections.names.keys w.in-Body.field-0.now (taken_is section_seen xs i _ _ c.sections-test.true w.in-Body.is) c.sections.invariant)
      | in-Named+in_ok-insert-in-Named+else-not-branch w ↦
          name_passed (map section_seen (take i xs)) c.sections.names.keys w.in-Named.name (framed_seen w.in-Named.documents) c.sections.invariant
          (map section_seen (take (i + 1) xs)) c.match-section.names.keys (taken_is section_seen xs i _ _ c.sections-test.true w.in-Named.is) (rw w.names-is w.in_ok-insert-in-Named.ensures.keys)
          (not_true _ (sym w.in_ok-insert-in-Named.ensures.added ∙ w.if-not-branch.false))
    ]
