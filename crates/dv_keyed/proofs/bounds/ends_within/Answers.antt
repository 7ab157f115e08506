use Rattle.std.proofs.Common.{◌∙◌, ◌&&◌, ◌==◌, ap, sym}
use Rattle.std.specs.Range.Bound.{bound_map}
use Rattle.dv_value.specs.View.{tree}
use Rattle.dv_order.specs.Key.{key_class, key_order, value}
use Rattle.dv_order.specs.Order.{canon, class}
use Rattle.dv_keyed.specs.Inner.Within.{stands_so}
use Rattle.dv_keyed.proofs.Ends.{key-ends, runs-above, runs-below, runs-most, in-above, in-from, in-below, in-until}
use Rattle.dv_keyed.proofs.bounds.ends_within.Goals as goal

pub returns-in_ok-key_end-in-Above-clause-forward : goal.returns-in_ok-key_end-in-Above-clause-forward
returns-in_ok-key_end-in-Above-clause-forward c = runs-above c.lower_classes_stand_first.ensures (tree c.args.value.now) c.in_ok-key.key c.in_ok-key.ensures c.in_ok-key_end-in-Above.field-0 (bound_map tree c.class_end.result) (c.in_ok-key_end-in-Above.ensures ∙ key-ends c.class_end.result) c.class_end.ensures

pub returns-in_ok-key_end-in-Above-clause-holds : goal.returns-in_ok-key_end-in-Above-clause-holds
returns-in_ok-key_end-in-Above-clause-holds c = λ k covered.
    in-above c.lower_classes_stand_first.ensures (tree c.args.value.now) c.in_ok-key.key c.in_ok-key.ensures c.in_ok-key_end-in-Above.field-0 (bound_map tree c.class_end.result) (c.in_ok-key_end-in-Above.ensures ∙ key-ends c.class_end.result) k c.class_end.ensures (ap (λ r. key_class k == class (tree c.args.value.now) && stands_so r (key_order k (value (canon (tree c.args.value.now))))) (sym c.in-Above.is) ∙ covered)

pub returns-in_ok-key_end-in-AtLeast-clause-holds : goal.returns-in_ok-key_end-in-AtLeast-clause-holds
returns-in_ok-key_end-in-AtLeast-clause-holds c = λ k covered.
    in-from c.lower_classes_stand_first.ensures (tree c.args.value.now) c.in_ok-key.key c.in_ok-key.ensures c.in_ok-key_end-in-AtLeast.field-0 (bound_map tree c.class_end-in-AtLeast.result) (c.in_ok-key_end-in-AtLeast.ensures ∙ key-ends c.class_end-in-AtLeast.result) k c.class_end-in-AtLeast.ensures (ap (λ r. key_class k == class (tree c.args.value.now) && stands_so r (key_order k (value (canon (tree c.args.value.now))))) (sym c.in-AtLeast.is) ∙ covered)

pub returns-in_ok-key_end-in-Below-clause-forward : goal.returns-in_ok-key_end-in-Below-clause-forward
returns-in_ok-key_end-in-Below-clause-forward c = runs-below c.lower_classes_stand_first.ensures (tree c.args.value.now) c.in_ok-key.key c.in_ok-key.ensures c.in_ok-key_end-in-Below.field-0 (bound_map tree c.class_start.result) (c.in_ok-key_end-in-Below.ensures ∙ key-ends c.class_start.result) c.class_start.ensures

pub returns-in_ok-key_end-in-Below-clause-holds : goal.returns-in_ok-key_end-in-Below-clause-holds
returns-in_ok-key_end-in-Below-clause-holds c = λ k covered.
    in-below c.lower_classes_stand_first.ensures (tree c.args.value.now) c.in_ok-key.key c.in_ok-key.ensures c.in_ok-key_end-in-Below.field-0 (bound_map tree c.class_start.result) (c.in_ok-key_end-in-Below.ensures ∙ key-ends c.class_start.result) k c.class_start.ensures (ap (λ r. key_class k == class (tree c.args.value.now) && stands_so r (key_order k (value (canon (tree c.args.value.now))))) (sym c.in-Below.is) ∙ covered)

pub returns-in_ok-key_end-in-AtMost-clause-forward : goal.returns-in_ok-key_end-in-AtMost-clause-forward
returns-in_ok-key_end-in-AtMost-clause-forward c = runs-most c.lower_classes_stand_first.ensures (tree c.args.value.now) c.in_ok-key.key c.in_ok-key.ensures c.in_ok-key_end-in-AtMost.field-0 (bound_map tree c.class_start-in-AtMost.result) (c.in_ok-key_end-in-AtMost.ensures ∙ key-ends c.class_start-in-AtMost.result) c.class_start-in-AtMost.ensures

pub returns-in_ok-key_end-in-AtMost-clause-holds : goal.returns-in_ok-key_end-in-AtMost-clause-holds
returns-in_ok-key_end-in-AtMost-clause-holds c = λ k covered.
    in-until c.lower_classes_stand_first.ensures (tree c.args.value.now) c.in_ok-key.key c.in_ok-key.ensures c.in_ok-key_end-in-AtMost.field-0 (bound_map tree c.class_start-in-AtMost.result) (c.in_ok-key_end-in-AtMost.ensures ∙ key-ends c.class_start-in-AtMost.result) k c.class_start-in-AtMost.ensures (ap (λ r. key_class k == class (tree c.args.value.now) && stands_so r (key_order k (value (canon (tree c.args.value.now))))) (sym c.in-AtMost.is) ∙ covered)
