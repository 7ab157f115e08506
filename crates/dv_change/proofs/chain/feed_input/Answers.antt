-- The changes that are returned lead from the last operator's old result to its new one.
use Rattle.std.proofs.Common.{◌≡◌, ◌∙◌, ◌++◌, ◌∷◌, [], ap, sym}
use Rattle.dv_change.specs.Changes.{with_changes}
use Rattle.dv_change.specs.Inputs.{left_after}
use Rattle.dv_change.specs.Inner.Linked.{first_left, forms_of}
use Rattle.dv_change.specs.Inner.Work.{forms_after}
use Rattle.dv_change.specs.Inner.Answered.{ok-one}
use Rattle.dv_change.proofs.Linking.{leads-after, outs-after}
use Rattle.dv_change.proofs.chain.feed_input.Goals as goal

pub returns-in_ok-push-in-Left-clause-outs : goal.returns-in_ok-push-in-Left-clause-outs
returns-in_ok-push-in-Left-clause-outs g c =
    let items : c.push.new.self.items ≡ c.args.change ∷ [] = c.in_ok-push-in-Left.ensures.items ∙ ap (λ some. some ++ c.args.change ∷ []) c.in_ok-changes-in-Left.ensures.items in
    let after : left_after c.args.input c.args.change (first_left g.T.Turn.turning c.args.turns.now) ≡ with_changes (first_left g.T.Turn.turning c.args.turns.now) c.push.new.self.items =
    ap (λ input. left_after input c.args.change (first_left g.T.Turn.turning c.args.turns.now)) c.in-Left.is ∙ ap (with_changes (first_left g.T.Turn.turning c.args.turns.now)) (sym items) in
    ok-one c.feed_all.result c.feed_all.ensures.linked (λ linked. outs-after g.T.Turn.turning g.met.T.Turn.positioned g.met.T.Turn.ordered c.feed_all.new.turns (first_left g.T.Turn.turning c.args.turns.now) _ c.args.input c.args.change after linked)

pub returns-in_ok-push-in-Left-clause-leads : goal.returns-in_ok-push-in-Left-clause-leads
returns-in_ok-push-in-Left-clause-leads g c =
    ok-one c.feed_all.result c.feed_all.ensures.forms (λ forms. leads-after g.T.Turn.turning g.met.T.Turn.positioned g.met.T.Turn.ordered c.args.turns.now c.feed_all.new.turns c.args.input c.args.change c.law_exact.ensures c.requires.linked
    (forms ∙ sym (ap (λ input. forms_after input c.args.change (forms_of g.T.Turn.turning c.args.turns.now)) c.in-Left.is)))

pub returns-in-Named-clause-outs : goal.returns-in-Named-clause-outs
returns-in-Named-clause-outs g c =
    let after : left_after c.args.input c.args.change (first_left g.T.Turn.turning c.args.turns.now) ≡ (first_left g.T.Turn.turning c.args.turns.now) = ap (λ input. left_after input c.args.change (first_left g.T.Turn.turning c.args.turns.now)) c.in-Named.is in
    ok-one c.feed_named.result c.feed_named.ensures.linked (λ linked. outs-after g.T.Turn.turning g.met.T.Turn.positioned g.met.T.Turn.ordered c.feed_named.new.turns (first_left g.T.Turn.turning c.args.turns.now) _ c.args.input c.args.change after linked)

pub returns-in-Named-clause-leads : goal.returns-in-Named-clause-leads
returns-in-Named-clause-leads g c =
    ok-one c.feed_named.result c.feed_named.ensures.forms (λ forms. leads-after g.T.Turn.turning g.met.T.Turn.positioned g.met.T.Turn.ordered c.args.turns.now c.feed_named.new.turns c.args.input c.args.change c.law_exact.ensures c.requires.linked
    (forms ∙ sym (ap (λ input. forms_after input c.args.change (forms_of g.T.Turn.turning c.args.turns.now)) c.in-Named.is)))
