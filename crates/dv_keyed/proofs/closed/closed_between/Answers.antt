use Rattle.std.proofs.Common.{◌∙◌, ◌&&◌, sym}
use Rattle.std.proofs.lemmas.Bool.{eqb-true}
use Rattle.dv_value.specs.View.{tree}
use Rattle.dv_match.specs.Filter.{in_range}
use Rattle.dv_order.specs.Order.{class}
use Rattle.dv_keyed.specs.Inner.Within.{covers}
use Rattle.dv_keyed.proofs.BothEnds.{above-below, above-most, least-below, least-most}
use Rattle.dv_keyed.proofs.closed.closed_between.Goals as goal

pub returns-in-Above-Below : goal.returns-in-Above-Below
returns-in-Above-Below c k =
    let v = tree c.args.least.now in
    let w = tree c.args.most.now in
    let same = eqb-true (class v) (class w) (sym c.same_class.ensures ∙ c.if-not-same_class.false) in
    above-below c.lower_classes_stand_first.ensures k v w same c.in_ok-start.start c.in_ok-end.end c.in_ok-start.ensures c.in_ok-end.ensures ∙ (λ j. covers (in_range (sym c.in-Above-Below.is-0 j) v) k && covers (in_range (sym c.in-Above-Below.is-1 j) w) k)

pub returns-in-Above-AtMost : goal.returns-in-Above-AtMost
returns-in-Above-AtMost c k =
    let v = tree c.args.least.now in
    let w = tree c.args.most.now in
    let same = eqb-true (class v) (class w) (sym c.same_class.ensures ∙ c.if-not-same_class.false) in
    above-most c.lower_classes_stand_first.ensures k v w same c.in_ok-start.start c.in_ok-end.end c.in_ok-start.ensures c.in_ok-end.ensures ∙ (λ j. covers (in_range (sym c.in-Above-AtMost.is-0 j) v) k && covers (in_range (sym c.in-Above-AtMost.is-1 j) w) k)

pub returns-in-AtLeast-Below : goal.returns-in-AtLeast-Below
returns-in-AtLeast-Below c k =
    let v = tree c.args.least.now in
    let w = tree c.args.most.now in
    let same = eqb-true (class v) (class w) (sym c.same_class.ensures ∙ c.if-not-same_class.false) in
    least-below c.lower_classes_stand_first.ensures k v w same c.in_ok-start.start c.in_ok-end.end c.in_ok-start.ensures c.in_ok-end.ensures ∙ (λ j. covers (in_range (sym c.in-AtLeast-Below.is-0 j) v) k && covers (in_range (sym c.in-AtLeast-Below.is-1 j) w) k)

pub returns-in-AtLeast-AtMost : goal.returns-in-AtLeast-AtMost
returns-in-AtLeast-AtMost c k =
    let v = tree c.args.least.now in
    let w = tree c.args.most.now in
    let same = eqb-true (class v) (class w) (sym c.same_class.ensures ∙ c.if-not-same_class.false) in
    least-most c.lower_classes_stand_first.ensures k v w same c.in_ok-start.start c.in_ok-end.end c.in_ok-start.ensures c.in_ok-end.ensures ∙ (λ j. covers (in_range (sym c.in-AtLeast-AtMost.is-0 j) v) k && covers (in_range (sym c.in-AtLeast-AtMost.is-1 j) w) k)
