use Rattle.std.proofs.Common.{sym, ◌∙◌}
use Rattle.std.proofs.lemmas.Result.{err_from_is_err_and}
use Rattle.dv_message.specs.Inner.View.{message_seen}
use Rattle.dv_wire.proofs.Fronts.{seen_is}
use Rattle.dv_wire.proofs.Streams.{begins, goes_on, at_unfinished, at_end, at_fault, at_failure}
use Rattle.dv_wire.proofs.session.carry_out_all.Goals as goal

pub messages-init : goal.messages-init
messages-init c = begins c.args.session c.args.store.now c.args.stream.now c.args.out.now.items c.args.counts.now

pub messages-smaller : goal.messages-smaller
messages-smaller c = (c.streams_split_by_their_fronts.ensures.whole c.messages.rest.now (message_seen c.in-Whole.message) c.in-Whole.behind.now (seen_is _ _ c.in-Whole.ensures.front (λ e. cc))).2

pub messages-preserved : goal.messages-preserved
messages-preserved c =
    goes_on c.streams_split_by_their_fronts.ensures.front c.args.session c.args.store.now c.messages.store c.args.stream.now c.messages.rest.now c.args.out.now.items c.messages.out.items c.args.counts.now c.messages.counts c.messages.invariant
    c.streams_split_by_their_fronts.ensures.whole c.carry_out.new.store (message_seen c.in-Whole.message) c.in-Whole.behind.now c.carry_out.new.out.items c.carry_out.new.counts (seen_is _ _ c.in-Whole.ensures.front (λ e. cc)) (rw c.in-Whole.ensures.store at c.in_ok-carry_out-in-Whole.ensures)

pub messages-preserved-in_ok-carry_out-in-Whole : goal.messages-preserved-in_ok-carry_out-in-Whole
messages-preserved-in_ok-carry_out-in-Whole c =
    goes_on c.streams_split_by_their_fronts.ensures.front c.args.session c.args.store.now c.messages.store c.args.stream.now c.messages.rest.now c.args.out.now.items c.messages.out.items c.args.counts.now c.messages.counts c.messages.invariant
    c.streams_split_by_their_fronts.ensures.whole c.carry_out.new.store (message_seen c.in-Whole.message) c.in-Whole.behind.now c.carry_out.new.out.items c.carry_out.new.counts (seen_is _ _ c.in-Whole.ensures.front (λ e. cc)) (rw c.in-Whole.ensures.store at c.in_ok-carry_out-in-Whole.ensures)

pub returns-in-Unfinished-clause-carried : goal.returns-in-Unfinished-clause-carried
returns-in-Unfinished-clause-carried c =
    rw c.in-Unfinished.ensures.store
    (at_unfinished c.streams_split_by_their_fronts.ensures.front c.args.session c.args.store.now c.messages.store c.args.stream.now c.messages.rest.now c.args.out.now.items c.messages.out.items c.args.counts.now c.messages.counts c.messages.invariant
    (seen_is _ _ c.in-Unfinished.ensures.front (λ e. cc)))

pub returns-clause-carried : goal.returns-clause-carried
returns-clause-carried c =
    at_end c.streams_split_by_their_fronts.ensures.front c.args.session c.args.store.now c.messages.store c.args.stream.now c.messages.rest.now c.args.out.now.items c.messages.out.items c.args.counts.now c.messages.counts c.messages.invariant
    (sym c.is_empty.ensures ∙ c.messages-test.false)

pub returns-in-Closing-clause-carried : goal.returns-in-Closing-clause-carried
returns-in-Closing-clause-carried c =
    rw c.in-Closing.ensures.store
    (at_fault c.streams_split_by_their_fronts.ensures.front c.args.session c.args.store.now c.messages.store c.args.stream.now c.messages.rest.now c.args.out.now.items c.messages.out.items c.args.counts.now c.messages.counts c.messages.invariant
    c.in-Closing.fault c.in-Closing.ensures.front)

pub returns-in_err-carry_out-in-Whole-clause-carried : goal.returns-in_err-carry_out-in-Whole-clause-carried
returns-in_err-carry_out-in-Whole-clause-carried c =
    let p = err_from_is_err_and c.from_residual.result c.from_residual.ensures.1 in
    rw (p.1, p.2)
    (at_failure c.streams_split_by_their_fronts.ensures.front c.args.session c.args.store.now c.messages.store c.args.stream.now c.messages.rest.now c.args.out.now.items c.messages.out.items c.args.counts.now c.messages.counts c.messages.invariant
    c.carry_out.new.store (message_seen c.in-Whole.message) c.in-Whole.behind.now c.carry_out.new.out.items c.carry_out.new.counts c.carry_out.result c.in_err-carry_out-in-Whole.field-0.0
    (seen_is _ _ c.in-Whole.ensures.front (λ e. cc)) c.in_err-carry_out-in-Whole.was (rw c.in-Whole.ensures.store at c.carry_out.ensures))
