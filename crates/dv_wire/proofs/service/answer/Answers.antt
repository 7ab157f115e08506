use Rattle.std.proofs.Common.{List, ℕ, subst, sym, ◌∙◌}
use Rattle.dv_wire.specs.Schedule.{Comes}
use Rattle.dv_wire.specs.Inner.View.{Came}
use Rattle.dv_wire.proofs.Pieces.{Answering, at_failure, goes_on, none_behind}
use Rattle.dv_wire.proofs.Talks.{at_err, at_ok}
use Rattle.dv_wire.proofs.service.answer.Goals as goal

pub returns-then-is_err-clause-answered : goal.returns-then-is_err-clause-answered
returns-then-is_err-clause-answered g c =
    let session = c.args.session.number in
    let fed = c.feed_counted-fed.ensures in
    let comes = subst (λ (piece : List ℕ). Comes c.messages.hub session piece fed.0 c.feed_counted-fed.result c.feed_counted-fed.new.self) c.split_at.ensures.front fed.3 in
    let part = at_err c.write_enough.result _ (sym c.is_err.ensures.value ∙ c.if-is_err.true) c.write_enough.ensures.part in
    let others = c.hear_out.ensures in
    let came = subst (λ (rest : List ℕ). Came c.feed_counted-fed.new.self session rest others.0 others.1 c.hear_out.new.hub) c.split_at.ensures.back others.2 in
    at_failure c.splitting_goes_on.ensures session c.args.hub.now c.messages.hub c.feed_counted-fed.new.self c.args.read.now c.messages.rest.now c.messages.replies.items
    c.args.counts.now c.messages.counts c.feed_counted-fed.new.counts c.messages.fed _ _ c.messages.invariant.0 c.whole_front.result fed.0 c.feed_counted-fed.result c.feed_counted-fed.new.out.items comes fed.2 fed.1
    c.requires.some part.0 _ part.1 c.hear_out.new.hub others.0 others.1 c.hear_out.new.counts came others.3

pub messages-preserved : goal.messages-preserved
messages-preserved g c =
    let session = c.args.session.number in
    let fed = c.feed_counted-fed.ensures in
    let comes = subst (λ (piece : List ℕ). Comes c.messages.hub session piece fed.0 c.feed_counted-fed.result c.feed_counted-fed.new.self) c.split_at.ensures.front fed.3 in
    let is_ok = sym c.is_err.ensures.value ∙ c.if-is_err.false in
    let writes = at_ok c.write_enough.result _ is_ok c.write_enough.ensures.some in
    let all = at_ok c.write_enough.result _ is_ok c.write_enough.ensures.all in (
      subst (λ (rest : List ℕ). Answering session c.args.hub.now c.args.read.now rest c.write_enough.new.replies.items c.args.counts.now c.feed_counted-fed.new.counts c.feed_counted-fed.result
          c.feed_counted-fed.new.self (g.W.ByteOut.contents c.args.writer.now) (g.W.ByteOut.contents c.write_enough.new.writer)) (sym c.split_at.ensures.back)
          (goes_on c.splitting_goes_on.ensures session c.args.hub.now c.messages.hub c.feed_counted-fed.new.self c.args.read.now c.messages.rest.now c.messages.replies.items
          c.args.counts.now c.messages.counts c.feed_counted-fed.new.counts c.messages.fed _ _ c.messages.invariant.0 c.whole_front.result fed.0 c.feed_counted-fed.result c.feed_counted-fed.new.out.items comes fed.2 fed.1
          c.write_enough.new.replies.items _ writes (λ none. all (c.is_empty-in-messages.ensures ∙ none_behind _ _ c.split_at.ensures.back none))),
      at_ok c.write_enough.result _ is_ok c.write_enough.ensures.written ∙ c.messages.invariant.1,
    )
