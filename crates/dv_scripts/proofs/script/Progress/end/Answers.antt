use Rattle.std.proofs.Common.{◌∙◌, ap, refl}
use Rattle.std.proofs.lemmas.Result.{err_from_is_err_and}
use Rattle.dv_wire.specs.Schedule.{conversation_of, unfinished_in}
use Rattle.dv_scripts.specs.Output.{end_line}
use Rattle.dv_scripts.specs.Script.{standing_of}
use Rattle.dv_words.specs.declared.said.Line.TheVariants.{End}
use Rattle.dv_scripts.proofs.Stopped.{stops_unopened, stops_untold}
use Rattle.dv_scripts.proofs.script.Progress.end.Goals as goal

pub returns-clause-done : goal.returns-clause-done
returns-clause-done c =
    let text = c.in_ok-end_text.ensures ∙ ap (end_line c.args.number) c.end-unfinished.ensures.unfinished in
    (c.in_ok-session.session, standing_of c.session.new.self.sessions c.session.new.hub, c.in_ok-session.ensures.found, (text, cc (c.set.ensures, c.end-unfinished.ensures.ended)))

pub returns-in_err-session-clause-stopped : goal.returns-in_err-session-clause-stopped
returns-in_err-session-clause-stopped c =
    let p = err_from_is_err_and c.from_residual.result c.from_residual.ensures.1 in
    rw (p.1, p.2) (stops_unopened c.in_err-session.field-0.0 (standing_of c.args.self.now.sessions c.args.hub.now) (End c.args.number) c.args.number c.session.new.hub refl c.in_err-session.ensures.refused)

pub returns-in_err-end_text-clause-stopped : goal.returns-in_err-end_text-clause-stopped
returns-in_err-end_text-clause-stopped c =
    let p = err_from_is_err_and c.from_residual-in_err-end_text.result c.from_residual-in_err-end_text.ensures.1 in
    let mid = standing_of c.session.new.self.sessions c.session.new.hub in
    rw (p.1, p.2)
    (stops_untold (standing_of c.args.self.now.sessions c.args.hub.now) (End c.args.number) (end_line c.args.number (unfinished_in (conversation_of c.in_ok-session.session.id.number mid.hub.sessions)))
    (standing_of c.set.new.self c.end-unfinished.new.self) (c.in_ok-session.session, mid, c.in_ok-session.ensures.found, (refl, cc (c.set.ensures, c.end-unfinished.ensures.ended))))
