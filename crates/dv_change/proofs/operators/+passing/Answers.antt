-- The changes that the first operator returns lead from its old result to its new one; the operators after it take them in.
use Rattle.std.proofs.Common.{rules, ◌≡◌, ◌∙◌, ◌++◌, ◌∷◌, [], List, ap, length, subst, sym}
use Rattle.std.specs.Option.{option_map}
use Rattle.std.proofs.lemmas.Bool.{eqb-true}
use Rattle.dv_change.specs.declared.taking.Taken.{Taken}
use Rattle.dv_change.specs.Changes.{with_change}
use Rattle.dv_change.specs.Difference.{diff}
use Rattle.dv_change.specs.Inner.Answered.{ok-both, ok-one}
use Rattle.dv_change.specs.Inner.Fed.{IsFed}
use Rattle.dv_change.specs.Inner.Told.{told_along}
use Rattle.dv_change.proofs.Passing.{passed-alone, passed-more}
use Rattle.dv_change.proofs.Underway.{fed-only, nothing-left}
use Rattle.dv_change.proofs.operators.+passing.Goals as goal

pub take_all-returns-clause-passed : goal.take_all-returns-clause-passed
take_all-returns-clause-passed g t c =
    let o = g.O.Operator in
    let laws = g.met.O.Operator in
    let e : c.args.operators.now ≡ c.in-Some-split_first_mut.first.now ∷ c.in-Some-split_first_mut.behind.now = search rules in
    ok-one c.take_all.result c.take_all.ensures.passed (λ passed.
    passed-more o.makes o.holds laws.positioned laws.ordered (option_map (λ rows. rows.now.entries) c.args.made) c.in-Some-split_first_mut.first.now c.take_each.new.operator c.in-Some-split_first_mut.behind.now c.take_all.new.operators c.args.all.items c.take_each.new.out.items c.args.out.now.items c.take_all.new.out.items c.args.ticks.now c.take_each.new.ticks c.take_all.new.ticks
    c.in_ok-take_each.ensures.makes
    (λ others left changes held exact are. subst (λ (none : List Taken). IsFed (o.makes c.in-Some-split_first_mut.first.now others) (o.holds c.take_each.new.operator others) left changes none c.take_each.new.out.items c.args.ticks.now c.take_each.new.ticks) c.new-told.ensures.items (c.in_ok-take_each.ensures.fed others left changes held exact are))
    passed c.args.operators.now e)

pub take_one-returns-then-is_empty-clause-passed : goal.take_one-returns-then-is_empty-clause-passed
take_one-returns-then-is_empty-clause-passed g t c =
    let o = g.O.Operator in
    let laws = g.met.O.Operator in
    let none = nothing-left c.in-Some.behind.now (eqb-true (length c.in-Some.behind.now) 0 (sym c.is_empty.ensures ∙ c.if-is_empty.true)) in
    let two : c.args.operators.now ≡ c.in-Some.first.now ∷ c.in-Some.behind.now = search rules in
    let e = two ∙ ap (λ os. c.in-Some.first.now ∷ os) none in
    let last = c.take_last.ensures in
    rw none (ok-both c.take_last.result last.makes last.fed (λ makes fed.
    passed-alone o.makes o.holds laws.positioned laws.ordered (option_map (λ rows. rows.now.entries) c.args.made) c.in-Some.first.now c.take_last.new.operator (c.args.taken ∷ []) c.args.out.now.items c.take_last.new.out.items c.args.ticks.now c.take_last.new.ticks makes fed c.args.operators.now e))

pub take_one-returns-clause-passed : goal.take_one-returns-clause-passed
take_one-returns-clause-passed g t c =
    let o = g.O.Operator in
    let laws = g.met.O.Operator in
    let m = o.makes c.in-Some.first.now in
    let e : c.args.operators.now ≡ c.in-Some.first.now ∷ c.in-Some.behind.now = search rules in
    let now = c.in_ok-take.ensures in
    ok-one c.take_all.result c.take_all.ensures.passed (λ passed.
    passed-more o.makes o.holds laws.positioned laws.ordered (option_map (λ rows. rows.now.entries) c.args.made) c.in-Some.first.now c.take.new.self c.in-Some.behind.now c.take_all.new.operators (c.args.taken ∷ []) c.take.new.out.items c.args.out.now.items c.take_all.new.out.items c.args.ticks.now c.take.new.ticks c.take_all.new.ticks
    now.makes
    (λ others left changes held exact are. fed-only (m others) (o.holds c.take.new.self others) c.args.taken left [] c.take.new.out.items c.args.ticks.now c.take.new.ticks
    (λ change one exactly. (
      now.holds others left change held (record { there = tt; told = one; exact = exactly }),
      now.out others left change held (record { there = tt; told = one; exact = exactly }) ∙ ap (λ ts. ts ++ told_along (m others left) (diff (m others left) (m others (with_change left change)))) c.new-told.ensures.items,
      now.ticks others left change held (record { there = tt; told = one; exact = exactly }),
    )) changes are exact)
    passed c.args.operators.now e)
