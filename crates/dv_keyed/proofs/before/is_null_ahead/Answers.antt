use Rattle.std.proofs.Common.{◌≡◌, ◌∙◌, ap, false, sym, true}
use Rattle.dv_keyed.specs.Inner.Ahead.{stands_ahead}
use Rattle.dv_keyed.specs.Inner.Interval.{is_between}
use Rattle.dv_keyed.proofs.before.is_null_ahead.Goals as goal

pub returns : goal.returns
returns c = λ no inside i.
    let between = c.in_ok-ends.ensures _ inside in
    let wrong : true ≡ false = sym between ∙ ap (is_between c.in_ok-ends.ends) (sym c.in_ok-null.ensures) ∙ sym c.contains.ensures ∙ no in
    absurd cc

pub returns-then-not-may_be_behind : goal.returns-then-not-may_be_behind
returns-then-not-may_be_behind c = λ no inside i.
    ap (λ k. stands_ahead c.args.direction c.args.bar.now k i) (sym c.in_ok-null.ensures) ∙ c.may_be_behind.ensures c.if-not-may_be_behind.true i
