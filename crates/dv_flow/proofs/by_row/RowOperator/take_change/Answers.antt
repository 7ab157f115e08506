-- What it returns for a change are the changes of its rows for the changed row alone; the old ones may be kept.
use Rattle.std.proofs.Common.{◌∙◌, ◌+◌, ◌++◌, ap, sym, subst}
use Rattle.dv_change.specs.Inner.Answered.{ok-one}
use Rattle.dv_change.specs.declared.input.Input.{Input}
use Rattle.dv_change.specs.Inner.Changes.{IsPositioned}
use Rattle.dv_change.specs.Inner.DiffLaws.{positioned-changed}
use Rattle.dv_change.specs.Inputs.{left_after, others_after}
use Rattle.dv_change.specs.Raised.{raised}
use Rattle.dv_flow.proofs.Owed.{out-counted, out-told}
use Rattle.dv_flow.proofs.by_row.RowOperator.take_change.Goals as goal

pub returns-in_ok-keep_last-in-Left-clause-holds : goal.returns-in_ok-keep_last-in-Left-clause-holds
returns-in_ok-keep_last-in-Left-clause-holds g c =
    ok-one c.hand_over.result c.hand_over.ensures.out (λ out others left change held comes. record {
      positioned = subst (λ (i : Input). IsPositioned (left_after i change left)) (sym c.in-Left.is) (positioned-changed left change held.positioned comes.exact);
      none = ap (λ i. others_after i change others) c.in-Left.is ∙ held.none;
    })

pub returns-in_ok-keep_last-in-Left-clause-out : goal.returns-in_ok-keep_last-in-Left-clause-out
returns-in_ok-keep_last-in-Left-clause-out g c =
    let stage = c.args.self.now.stage in
    let laws = g.met.S.ByRow in
    let rows = c.in_ok-rows-in-Left in
    ok-one c.hand_over.result c.hand_over.ensures.out (λ out others left change held comes kept.
    out ∙ ap (λ ts. c.args.out.now.items ++ ts) (
    out-told (g.S.ByRow.makes stage) (g.S.ByRow.origin stage) (laws.ordered stage) (laws.empty stage) (laws.exact stage) (laws.single stage) left change held.positioned comes.exact c.args.input c.in-Left.is c.args.taken.now others comes _ rows.rows rows.ensures kept))

pub returns-in_ok-keep_last-in-Left-clause-ticks : goal.returns-in_ok-keep_last-in-Left-clause-ticks
returns-in_ok-keep_last-in-Left-clause-ticks g c =
    let stage = c.args.self.now.stage in
    let laws = g.met.S.ByRow in
    let rows = c.in_ok-rows-in-Left in
    ok-one c.hand_over.result c.hand_over.ensures.ticks (λ ticks others left change held comes kept.
    ticks ∙ ap (λ n. raised c.args.ticks.now (1 + n)) (
    out-counted (g.S.ByRow.makes stage) (g.S.ByRow.origin stage) (laws.ordered stage) (laws.empty stage) (laws.exact stage) (laws.single stage) left change held.positioned comes.exact c.args.input c.in-Left.is c.args.taken.now others comes _ rows.rows rows.ensures kept))
