-- What is returned is what is owed.
use Rattle.std.proofs.Common.{◌≡◌, ◌∙◌, ◌++◌, ap, arith, Result, Ok, Err, OnErr}
use Rattle.dv_change.specs.Inner.Answered.{ok-one}
use Rattle.dv_change.specs.Work.{owed_by}
use Rattle.dv_change.specs.Inner.ToldLaws.{changes-told}
use Rattle.dv_change.specs.Inner.Told.{changes_told, told_along}
use Rattle.dv_change.proofs.keeping.Keeping.hand_on.Goals as goal

pub returns-clause-out : goal.returns-clause-out
returns-clause-out g c =
    ok-one c.push_changes.result c.push_changes.ensures.out (λ out others left change held comes.
    let makes = g.O.Operator.makes c.args.self.now.operator in
    let all = owed_by c.args.input change makes others left in
    let told : c.take.new.out.items ≡ told_along (makes others left) all = c.in_ok-take.ensures.out others left change held comes ∙ ap (λ ts. ts ++ told_along (makes others left) all) c.new-told.ensures.items in
    out ∙ ap (λ cs. c.args.out.now.items ++ cs) (ap changes_told told ∙ changes-told (makes others left) all))

on-err : {A E P : Type 0} (r : Result A E) → P → OnErr r P
on-err (Ok a) p = tt
on-err (Err e) p = p

pub returns-clause-no_fewer : goal.returns-clause-no_fewer
returns-clause-no_fewer g c =
    on-err c.push_changes.result (λ others left change held comes. let ticks = c.in_ok-take.ensures.ticks others left change held comes in omega (arith, ticks))
