use Rattle.std.proofs.Common.{[], sym, refl}
use Rattle.std.proofs.lemmas.List.{append-nil}
use Rattle.std.proofs.lemmas.Result.{err_from_is_err_and}
use Rattle.dv_core.specs.Told.{outcome_told}
use Rattle.dv_message.specs.Inner.View.{message_seen}
use Rattle.dv_wire.proofs.Counting.{Counted-answered, Counted-unanswered}
use Rattle.dv_wire.proofs.Replies.{is_answered, is_closed, message_spelling-some}
use Rattle.dv_wire.proofs.session.carry_out.Goals as goal

pub returns-in_err-reply : goal.returns-in_err-reply
returns-in_err-reply c =
    let p = err_from_is_err_and c.from_residual.result c.from_residual.ensures.1 in
    rw p.1
    (is_closed c.args.session c.args.store.now c.step-outcome.new.store (message_seen c.args.message.now) (outcome_told c.step-outcome.result) c.step-outcome.ensures _ _ _ _ refl
    (Counted-unanswered _ _ c.saturating_add-counts.ensures refl))

pub returns-in_err-send : goal.returns-in_err-send
returns-in_err-send c =
    let p = err_from_is_err_and c.from_residual-in_err-send.result c.from_residual-in_err-send.ensures.1 in
    rw (p.1, c.in_err-send.ensures.store)
    (is_closed c.args.session c.args.store.now c.step-outcome.new.store (message_seen c.args.message.now) (outcome_told c.step-outcome.result) c.step-outcome.ensures _ _ _ _
    c.in_err-send.ensures.err (Counted-unanswered _ _ c.saturating_add-counts.ensures refl))

pub returns-in_ok-send : goal.returns-in_ok-send
returns-in_ok-send c =
    rw c.in_ok-send.ensures.store
    (is_answered c.args.session c.args.store.now c.step-outcome.new.store (message_seen c.args.message.now) (outcome_told c.step-outcome.result) c.step-outcome.ensures _ _ _ _ _
    (sym (rw c.in-Some.is at c.in_ok-reply.ensures)) c.in_ok-send.ensures.ok
    (Counted-answered _ _ _ c.saturating_add-counts.ensures c.saturating_add-counts-in-Some.ensures (message_spelling-some 0 _ 0 _)))

pub returns-in_default : goal.returns-in_default
returns-in_default c =
    is_answered c.args.session c.args.store.now c.step-outcome.new.store (message_seen c.args.message.now) (outcome_told c.step-outcome.result) c.step-outcome.ensures _ _ _ _ []
    (sym (rw c.in_default.is at c.in_ok-reply.ensures)) (sym (append-nil _)) (Counted-unanswered _ _ c.saturating_add-counts.ensures refl)
