use Rattle.std.proofs.Common.{◌+◌, List, map, take, drop, refl, ap, subst, ◌∙◌}
use Rattle.std.proofs.lemmas.List.{map-append, take_all}
use Rattle.std.proofs.lemmas.Result.{err_from_is_err_and}
use Rattle.dv_command.specs.ListsView.{list_seen}
use Rattle.dv_message.specs.declared.sections.Section as declared
use Rattle.dv_message.specs.Sections.{body, named}
use Rattle.dv_message.specs.Inner.SectionsView.{framed_seen, section_seen}
use Rattle.dv_message.proofs.Reading.{taken_is, parts_are}
use Rattle.dv_message.proofs.Brought.{AreKept, none_kept, body_kept, list_kept, stops_needed, body_fault, list_fault, as_needed}
use Rattle.dv_message.proofs.commands.read_several.Goals as goal
use Rattle.dv_message.proofs.commands.read_several.Goals.{in-Body+in_ok-body-in-Body, in-Named+in_ok-read_list-in-Named+in_ok-push-in-Named}

pub sections-init : goal.sections-init
sections-init c = rw (c.new-body.ensures, c.new-lists.ensures.items) (none_kept c.command_name_in-command.result.now)

pub returns-in_err-body-in-Body : goal.returns-in_err-body-in-Body
returns-in_err-body-in-Body c =
    let p = err_from_is_err_and c.from_residual.result c.from_residual.ensures.1 in
    let xs = c.args.sections.now in
    let i = c.sections.section-index in
    let seen = parts_are section_seen xs i _ _ c.sections-test.true c.in-Body.is in
    rw (p.1, p.2)
    (stops_needed c.command_name_in-command.result.now (map section_seen (take i xs)) c.sections.body (map list_seen c.sections.lists.items) c.sections.invariant (map section_seen xs) (map section_seen (drop (i + 1) xs))
    (body c.in-Body.document.now) c.in_err-body-in-Body.field-0.0 seen
    (body_fault (body c.in-Body.document.now) c.in-Body.document.now c.in_err-body-in-Body.field-0.0 refl c.in_err-body-in-Body.ensures))

pub returns-in_err-read_list-in-Named : goal.returns-in_err-read_list-in-Named
returns-in_err-read_list-in-Named c =
    let p = err_from_is_err_and c.from_residual-in_err-read_list-in-Named.result c.from_residual-in_err-read_list-in-Named.ensures.1 in
    let xs = c.args.sections.now in
    let i = c.sections.section-index in
    let name = c.in-Named.name.now in
    let documents = framed_seen c.in-Named.documents in
    let seen = parts_are section_seen xs i _ _ c.sections-test.true c.in-Named.is in
    rw (p.1, p.2)
    (stops_needed c.command_name_in-command.result.now (map section_seen (take i xs)) c.sections.body (map list_seen c.sections.lists.items) c.sections.invariant (map section_seen xs) (map section_seen (drop (i + 1) xs))
    (named name documents) c.in_err-read_list-in-Named.field-0.0 seen
    (list_fault name c.documents_needed-most.result documents c.in_err-read_list-in-Named.field-0.0 c.in_err-read_list-in-Named.ensures))

pub sections-preserved : goal.sections-preserved
sections-preserved c =
    let xs = c.args.sections.now in
    let i = c.sections.section-index in
    let command = c.command_name_in-command.result.now in
    elim c.match-section.branch [
      | in-Body+in_ok-body-in-Body w ↦
          rw (w.body-is, w.lists-is)
          (body_kept command (map section_seen (take i xs)) c.sections.body (map list_seen c.sections.lists.items) c.sections.invariant (map section_seen (take (i + 1) xs))
          w.in-Body.document.now w.in_ok-body-in-Body.body (taken_is section_seen xs i _ _ c.sections-test.true w.in-Body.is) w.in_ok-body-in-Body.ensures)
      | in-Named+in_ok-read_list-in-Named+in_ok-push-in-Named w ↦
          rw (w.body-is, w.lists-is)
          (list_kept command (map section_seen (take i xs)) c.sections.body (map list_seen c.sections.lists.items) c.sections.invariant (map section_seen (take (i + 1) xs))
          w.in-Named.name.now (framed_seen w.in-Named.documents) (list_seen w.in_ok-read_list-in-Named.field-0) (map list_seen w.push.new.self.items)
          (taken_is section_seen xs i _ _ c.sections-test.true w.in-Named.is) (rw w.documents_needed-most.ensures at w.in_ok-read_list-in-Named.ensures)
          (ap (map list_seen) w.in_ok-push-in-Named.ensures.items ∙ map-append list_seen _ _))
    ]

pub returns : goal.returns
returns c =
    let xs = c.args.sections.now in
    let command = c.command_name_in-command.result.now in
    let lists = map list_seen c.sections.lists.items in
    let kept = subst (λ (ss : List declared.Section). AreKept command (map section_seen ss) c.sections.body lists) (take_all c.sections.section-index xs c.sections-test.false) c.sections.invariant in
    as_needed command (map section_seen xs) c.sections.body lists kept c.command_name_in-command.ensures
