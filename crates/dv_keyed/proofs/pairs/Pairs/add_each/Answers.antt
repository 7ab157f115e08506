use Rattle.std.proofs.Common.{Bor, ◌∙◌, ◌||◌, ◌&&◌, not, ap, sym, take, take_all, map}
use Rattle.std.specs.List.{list_any}
use Rattle.std.specs.Ordering.{is_eq}
use Rattle.dv_order.specs.Key.{KeyTree, key_order}
use Rattle.dv_keyed.specs.Inner.Keys.{has_key}
use Rattle.dv_keyed.specs.Inner.Pairs.{has_pair}
use Rattle.dv_keyed.specs.Inner.ListLaws.{any-one-more}
use Rattle.dv_keyed.proofs.Several.{on-err, added-none, added-more, keys-lent, outside, any-front}
use Rattle.dv_keyed.proofs.pairs.Pairs.add_each.Goals as goal

pub loop-key-init : goal.loop-key-init
loop-key-init c = λ k i. added-none (has_pair k i c.args.self.now) (is_eq (key_order i c.args.id.now))

pub loop-key-preserved : goal.loop-key-preserved
loop-key-preserved c = λ k i.
    let test = λ (x : Bor KeyTree). is_eq (key_order k x.now) in
    let keys = c.args.keys.now in
    let at = c.loop-key.key-index in
    let s = is_eq (key_order i c.args.id.now) in
    let o = has_pair k i c.args.self.now in
    c.in_ok-add_pair.ensures.ok k i
    ∙ ap (λ b. b || (test c.key-item.result && s)) (c.loop-key.invariant k i)
    ∙ added-more o (list_any test (take at keys)) (test c.key-item.result) s
    ∙ ap (λ b. o || (b && s)) (sym (any-one-more test keys at c.key-item.result c.loop-key-test.true c.key-item.is))

pub returns-clause-ok : goal.returns-clause-ok
returns-clause-ok c = λ k i.
    let test = λ (x : Bor KeyTree). is_eq (key_order k x.now) in
    c.loop-key.invariant k i
    ∙ ap (λ b. has_pair k i c.args.self.now || (b && is_eq (key_order i c.args.id.now))) (ap (list_any test) (take_all c.loop-key.key-index c.args.keys.now c.loop-key-test.false) ∙ keys-lent k c.args.keys.now)

pub returns-in_err-add_pair-clause-err : goal.returns-in_err-add_pair-clause-err
returns-in_err-add_pair-clause-err c = on-err c.from_residual.result (λ k i.
    let test = λ (x : Bor KeyTree). is_eq (key_order k x.now) in
    let keys = c.args.keys.now in
    let s = is_eq (key_order i c.args.id.now) in
    let whole = keys-lent k keys in
    let fore = outside (has_pair k i c.args.self.now) (list_any test (take c.loop-key.key-index keys)) (list_any test keys) s (any-front test keys c.loop-key.key-index) in
    ap (λ b. b && not (has_key k (map (λ (x : Bor KeyTree). x.now) keys) && s)) (c.in_err-add_pair.ensures.err k i ∙ c.loop-key.invariant k i)
    ∙ ap (λ b. (has_pair k i c.args.self.now || (list_any test (take c.loop-key.key-index keys) && s)) && not (b && s)) (sym whole)
    ∙ fore
    ∙ ap (λ b. has_pair k i c.args.self.now && not (b && s)) whole)
