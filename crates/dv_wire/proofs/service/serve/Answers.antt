use Rattle.std.proofs.Common.{◌∙◌, append-nil, arith, refl, rules, subst, sym, take}
use Rattle.std.specs.List.{concat}
use Rattle.std.specs.Io.KnownBytes.{Consumes}
use Rattle.dv_wire.specs.Inner.CountLaws.{asks_few, asks_most}
use Rattle.dv_wire.proofs.Talks.{at_closing, at_end, at_failure, at_limit, at_part, begins, is_not_none, not_some, read_more, talks_on}
use Rattle.dv_wire.proofs.service.serve.Goals as goal
use Rattle.dv_wire.specs.Inner.CountLaws.{one_more, no_more}

pub reads-init : goal.reads-init
reads-init g c =
    (begins c.args.session.number c.args.hub.now _ _ _ c.requires.there c.none-counts.ensures.messages c.none-counts.ensures.replies, c.new-replies.ensures.items, refl, refl, no_more (g.R.ByteIn.reads c.args.reader.now))

pub returns-in_default-clause-talked : goal.returns-in_default-clause-talked
returns-in_default-clause-talked g c =
    at_failure c.splitting_goes_on.ensures c.messages_are_no_more_than_bytes.ensures c.args.session.number c.args.hub.now c.requires.there _ _ _ _ _ _ _ _ c.reads.invariant.0 c.in_default.ensures.kept

pub returns-in_default-clause-reads : goal.returns-in_default-clause-reads
returns-in_default-clause-reads g c =
    asks_few c.reads.counter (g.R.ByteIn.reads c.args.reader.now) (g.R.ByteIn.reads c.reads.reader) (g.R.ByteIn.reads c.take.new.self) c.reads-test.true c.reads.invariant.4 c.in_default.ensures.reads

pub returns-then-count-eq0-clause-talked : goal.returns-then-count-eq0-clause-talked
returns-then-count-eq0-clause-talked g c =
    let none = subst (λ count. Consumes (g.R.ByteIn.remaining c.reads.reader) (g.R.ByteIn.remaining c.take.new.self) (take count c.take.new.piece)) c.if-count-eq0.true c.in-Ok.ensures.bytes in
    at_end c.splitting_goes_on.ensures c.messages_are_no_more_than_bytes.ensures c.args.session.number c.args.hub.now c.requires.there _ _ _ _ _ _ _ _ c.reads.invariant.0 none (c.in-Ok.ensures.end c.if-count-eq0.true)

pub returns-then-count-eq0-clause-reads : goal.returns-then-count-eq0-clause-reads
returns-then-count-eq0-clause-reads g c =
    asks_few c.reads.counter (g.R.ByteIn.reads c.args.reader.now) (g.R.ByteIn.reads c.reads.reader) (g.R.ByteIn.reads c.take.new.self) c.reads-test.true c.reads.invariant.4 c.in-Ok.ensures.reads

pub returns-in_default-answer-clause-talked : goal.returns-in_default-answer-clause-talked
returns-in_default-answer-clause-talked g c =
    let answered = c.in_default-answer.ensures.answered in
    let room = c.take.auto.piece ∙ c.reads.long-piece ∙ c.requires.room in
    let said =
    read_more c.splitting_goes_on.ensures c.messages_are_no_more_than_bytes.ensures c.args.session.number c.args.hub.now c.requires.there _ _ (g.R.ByteIn.remaining c.take.new.self) _ _ _ _ _ _ _ c.reads.invariant.0 c.take.new.piece c.in-Ok.count answered.2.0 answered.0
    c.in-Ok.ensures.few c.if-count-eq0.false room c.in-Ok.ensures.bytes c.reads-test.true answered.2.1 answered.2.2 in
    at_part c.splitting_goes_on.ensures c.messages_are_no_more_than_bytes.ensures c.args.session.number c.args.hub.now c.requires.there _ _ _ _ _ _ _ _ _ _ said (concat answered.2.0) refl answered.2.3.0 answered.1 answered.2.3.1 answered.2.3.2

pub returns-in_default-answer-clause-reads : goal.returns-in_default-answer-clause-reads
returns-in_default-answer-clause-reads g c =
    asks_few c.reads.counter (g.R.ByteIn.reads c.args.reader.now) (g.R.ByteIn.reads c.reads.reader) (g.R.ByteIn.reads c.take.new.self) c.reads-test.true c.reads.invariant.4 c.in-Ok.ensures.reads

pub returns-then-is_some-clause-talked : goal.returns-then-is_some-clause-talked
returns-then-is_some-clause-talked g c =
    let answered = c.in-Ok-answer.ensures.answered in
    let room = c.take.auto.piece ∙ c.reads.long-piece ∙ c.requires.room in
    let said =
    read_more c.splitting_goes_on.ensures c.messages_are_no_more_than_bytes.ensures c.args.session.number c.args.hub.now c.requires.there _ _ (g.R.ByteIn.remaining c.take.new.self) _ _ _ _ _ _ _ c.reads.invariant.0 c.take.new.piece c.in-Ok.count answered.0 c.in-Ok-answer.fed
    c.in-Ok.ensures.few c.if-count-eq0.false room c.in-Ok.ensures.bytes c.reads-test.true answered.1 answered.2 in
    at_closing c.splitting_goes_on.ensures c.messages_are_no_more_than_bytes.ensures c.args.session.number c.args.hub.now c.requires.there _ _ _ _ _ _ _ _ _ _ said answered.3.0 (sym (answered.3.1 ∙ append-nil answered.3.0)) answered.3.2
    c.closing_in-closing.result c.closing_in-closing.ensures (is_not_none c.closing_in-closing.result (sym c.is_some.ensures ∙ c.if-is_some.true))

pub returns-then-is_some-clause-reads : goal.returns-then-is_some-clause-reads
returns-then-is_some-clause-reads g c =
    asks_few c.reads.counter (g.R.ByteIn.reads c.args.reader.now) (g.R.ByteIn.reads c.reads.reader) (g.R.ByteIn.reads c.take.new.self) c.reads-test.true c.reads.invariant.4 c.in-Ok.ensures.reads

pub reads-preserved : goal.reads-preserved
reads-preserved g c =
    let answered = c.in-Ok-answer.ensures.answered in
    let room = c.take.auto.piece ∙ c.reads.long-piece ∙ c.requires.room in
    let said =
    read_more c.splitting_goes_on.ensures c.messages_are_no_more_than_bytes.ensures c.args.session.number c.args.hub.now c.requires.there _ _ (g.R.ByteIn.remaining c.take.new.self) _ _ _ _ _ _ _ c.reads.invariant.0 c.take.new.piece c.in-Ok.count answered.0 c.in-Ok-answer.fed
    c.in-Ok.ensures.few c.if-count-eq0.false room c.in-Ok.ensures.bytes c.reads-test.true answered.1 answered.2 in
    let nothing = sym c.closing_in-closing.ensures ∙ not_some c.closing_in-closing.result (sym c.is_some.ensures ∙ c.if-is_some.false) in (
      talks_on c.splitting_goes_on.ensures c.messages_are_no_more_than_bytes.ensures c.args.session.number c.args.hub.now c.requires.there _ _ _ _ _ _ _ _ _ _ said answered.3.0 (sym (answered.3.1 ∙ append-nil answered.3.0)) answered.3.2 nothing,
      c.in-Ok-answer.ensures.none,
      c.in-Ok.ensures.failures ∙ c.reads.invariant.2,
      c.in-Ok-answer.ensures.written ∙ c.reads.invariant.3,
      one_more c.reads.counter (g.R.ByteIn.reads c.args.reader.now) (g.R.ByteIn.reads c.reads.reader) (g.R.ByteIn.reads c.take.new.self) c.reads.invariant.4 c.in-Ok.ensures.reads,
    )

pub returns-clause-talked : goal.returns-clause-talked
returns-clause-talked g c = at_limit c.splitting_goes_on.ensures c.messages_are_no_more_than_bytes.ensures c.args.session.number c.args.hub.now c.requires.there _ _ _ _ _ _ _ c.reads.invariant.0 c.reads-test.false

pub returns-clause-reads : goal.returns-clause-reads
returns-clause-reads g c =
    asks_most c.reads.counter (g.R.ByteIn.reads c.args.reader.now) (g.R.ByteIn.reads c.reads.reader) (search (rules, arith)) c.reads-test.false c.reads.invariant.4
