use Rattle.std.proofs.Common.{[], ◌∷◌, map, take, ap, ◌∙◌, arith}
use Rattle.dv_message.specs.Sections.{body, named, body_count}
use Rattle.dv_message.specs.Inner.SectionsView.{framed_seen, section_seen}
use Rattle.dv_message.proofs.Reading.{taken_is}
use Rattle.dv_message.proofs.Names.{body_count-append}
use Rattle.dv_message.proofs.sections.body_count.Goals as goal
use Rattle.dv_message.proofs.sections.body_count.Goals.{in-Body, in-Named}

pub sections-preserved : goal.sections-preserved
sections-preserved c =
    let i = c.sections.section-index in
    let xs = c.args.sections.now in
    let so_far = map section_seen (take i xs) in
    elim c.match-section.branch [
      | in-Body w ↦
          let one = body w.in-Body.field-0.now ∷ [] in
          let more = ap body_count (taken_is section_seen xs i _ _ c.sections-test.true w.in-Body.is) ∙ body_count-append so_far one in
          record { counted = omega (arith, more, c.sections.invariant.counted, w.count-is); few = omega (arith, w.count-is, c.sections.invariant.few) }
      | in-Named w ↦
          let none = named w.in-Named.name.now (framed_seen w.in-Named.documents) ∷ [] in
          let more = ap body_count (taken_is section_seen xs i _ _ c.sections-test.true w.in-Named.is) ∙ body_count-append so_far none in
          record { counted = omega (arith, more, c.sections.invariant.counted, w.count-is); few = omega (arith, w.count-is, c.sections.invariant.few) }
    ]
