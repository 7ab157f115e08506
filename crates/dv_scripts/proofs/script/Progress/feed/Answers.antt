use Rattle.std.proofs.Common.{◌≡◌, ◌∙◌, ap, inl, inr, refl, sym, subst, Some}
use Rattle.std.specs.Prelude.{slice_set}
use Rattle.std.proofs.lemmas.Result.{err_from_is_err_and}
use Rattle.dv_scripts.specs.Output.{AreReplies, fed_text}
use Rattle.dv_scripts.specs.Script.{is_closing, standing_of}
use Rattle.dv_words.specs.declared.said.Line.TheVariants.{Bytes}
use Rattle.dv_scripts.proofs.Replies.{not_closing}
use Rattle.dv_scripts.proofs.Stopped.{are_replies, stops_unopened, stops_untold}
use Rattle.dv_scripts.proofs.script.Progress.feed.Goals as goal
use Rattle.dv_scripts.proofs.script.Progress.feed.Goals.{in-Closed, in_default}

pub returns-then-session-clause-done : goal.returns-then-session-clause-done
returns-then-session-clause-done c = (
  c.in_ok-session.session,
  standing_of c.session.new.self.sessions c.session.new.hub,
  c.in_ok-session.ensures.found,
  inl (c.if-session.true, c.new.ensures.bytes, refl),
)

pub returns-clause-done : goal.returns-clause-done
returns-clause-done c =
    let answered = c.feed-fed.ensures.fed in
    let lines = c.in_ok-fed_text.ensures in
    let told = c.feed-fed.result in
    let bytes : c.as_slice.result.now ≡ answered.0 = cc (c.as_slice.ensures.value, answered.1, c.new-replies.ensures.items) in
    let shut : c.match-matches.matches ≡ is_closing told = elim c.match-matches.branch [
      | in-Closed w ↦ w.matches-is ∙ sym (ap is_closing w.in-Closed.is)
      | in_default w ↦ w.matches-is ∙ sym (not_closing told w.in_default.not-Closed)
    ] in
    let put = ap (λ closed. slice_set c.session.new.self.sessions.places c.args.number (Some (record c.in_ok-session.session { is_closed = closed }))) shut in (
      c.in_ok-session.session,
      standing_of c.session.new.self.sessions c.session.new.hub,
      c.in_ok-session.ensures.found,
      inr (c.if-session.false, (answered.0, lines.0, told, answered.2, subst (AreReplies lines.0) bytes lines.1, lines.2, c.set.ensures ∙ put)),
    )

pub returns-in_err-session-clause-stopped : goal.returns-in_err-session-clause-stopped
returns-in_err-session-clause-stopped c =
    let p = err_from_is_err_and c.from_residual.result c.from_residual.ensures.1 in
    rw (p.1, p.2) (stops_unopened c.in_err-session.field-0.0 (standing_of c.args.self.now.sessions c.args.hub.now) (Bytes c.args.number c.args.bytes.now) c.args.number c.session.new.hub refl c.in_err-session.ensures.refused)

pub returns-in_err-fed_text-clause-stopped : goal.returns-in_err-fed_text-clause-stopped
returns-in_err-fed_text-clause-stopped c =
    let p = err_from_is_err_and c.from_residual-in_err-fed_text.result c.from_residual-in_err-fed_text.ensures.1 in
    let answered = c.feed-fed.ensures.fed in
    let told = c.feed-fed.result in
    let replies = are_replies answered.0 in
    let shut : c.match-matches.matches ≡ is_closing told = elim c.match-matches.branch [
      | in-Closed w ↦ w.matches-is ∙ sym (ap is_closing w.in-Closed.is)
      | in_default w ↦ w.matches-is ∙ sym (not_closing told w.in_default.not-Closed)
    ] in
    let put = ap (λ closed. slice_set c.session.new.self.sessions.places c.args.number (Some (record c.in_ok-session.session { is_closed = closed }))) shut in
    rw (p.1, p.2)
    (stops_untold (standing_of c.args.self.now.sessions c.args.hub.now) (Bytes c.args.number c.args.bytes.now) (fed_text c.args.number replies.0 told) (standing_of c.set.new.self c.feed-fed.new.self) (
      c.in_ok-session.session,
      standing_of c.session.new.self.sessions c.session.new.hub,
      c.in_ok-session.ensures.found,
      inr (c.if-session.false, (answered.0, replies.0, told, answered.2, replies.1, refl, c.set.ensures ∙ put)),
    ))
