use Rattle.std.proofs.Common.{Bor, ◌∙◌, ◌&&◌, not, ap, sym, take, take_all}
use Rattle.std.specs.List.{list_any}
use Rattle.std.specs.Ordering.{is_eq}
use Rattle.dv_order.specs.Key.{KeyTree, key_order}
use Rattle.dv_keyed.specs.Inner.Pairs.{has_pair}
use Rattle.dv_keyed.specs.Inner.ListLaws.{any-one-more}
use Rattle.dv_keyed.proofs.Several.{taken-none, taken-more, keys-lent}
use Rattle.dv_keyed.proofs.pairs.Pairs.take_out_each.Goals as goal

pub loop-key-init : goal.loop-key-init
loop-key-init c = λ k i. taken-none (has_pair k i c.args.self.now) (is_eq (key_order i c.args.id.now))

pub loop-key-preserved : goal.loop-key-preserved
loop-key-preserved c = λ k i.
    let test = λ (x : Bor KeyTree). is_eq (key_order k x.now) in
    let keys = c.args.keys.now in
    let at = c.loop-key.key-index in
    let s = is_eq (key_order i c.args.id.now) in
    let o = has_pair k i c.args.self.now in
    c.take_out_pair.ensures k i
    ∙ ap (λ b. b && not (test c.key-item.result && s)) (c.loop-key.invariant k i)
    ∙ taken-more o (list_any test (take at keys)) (test c.key-item.result) s
    ∙ ap (λ b. o && not (b && s)) (sym (any-one-more test keys at c.key-item.result c.loop-key-test.true c.key-item.is))

pub returns : goal.returns
returns c = λ k i.
    let test = λ (x : Bor KeyTree). is_eq (key_order k x.now) in
    c.loop-key.invariant k i
    ∙ ap (λ b. has_pair k i c.args.self.now && not (b && is_eq (key_order i c.args.id.now))) (ap (list_any test) (take_all c.loop-key.key-index c.args.keys.now c.loop-key-test.false) ∙ keys-lent k c.args.keys.now)
