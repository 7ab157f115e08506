-- The change is of a list of the first operator, or of one after it.
use Rattle.std.proofs.Common.{rules, ◌≡◌, ◌∙◌, ◌++◌, ◌∷◌, List, ap, subst}
use Rattle.std.specs.Option.{option_map}
use Rattle.dv_change.specs.declared.input.Input.TheVariants.{Named}
use Rattle.dv_change.specs.Inner.Answered.{ok-one}
use Rattle.dv_change.specs.Inner.Fed.{AreHeld}
use Rattle.dv_change.specs.Inner.Told.{told_along}
use Rattle.dv_change.specs.Work.{owed_by}
use Rattle.dv_change.proofs.Passing.{named-here}
use Rattle.dv_change.proofs.operators.+take_named.Goals as goal

pub returns-in_ok-take-clause-passed : goal.returns-in_ok-take-clause-passed
returns-in_ok-take-clause-passed g t c =
    let o = g.O.Operator in
    let laws = g.met.O.Operator in
    let e : c.args.operators.now ≡ c.in-Some.first.now ∷ c.in-Some.behind.now = search rules in
    let now = c.in_ok-take.ensures in
    ok-one c.take_all.result c.take_all.ensures.passed (λ passed forms rows change held comes is.
    named-here o.makes o.holds laws.positioned laws.ordered (option_map (λ rows. rows.now.entries) c.args.made) c.args.place change c.args.taken comes.exact c.in-Some.first.now c.take.new.self c.in-Some.behind.now c.take_all.new.operators c.take.new.out.items c.args.out.now.items c.take_all.new.out.items c.args.ticks.now c.take.new.ticks c.take_all.new.ticks c.named-named.result now.makes c.named-named.ensures
    c.if-place-named.true now.holds
    (λ others left one h k. now.out others left one h k ∙ ap (λ ts. ts ++ told_along (o.makes c.in-Some.first.now others left) (owed_by (Named c.args.place) one (o.makes c.in-Some.first.now) others left)) c.new-told.ensures.items)
    now.ticks passed forms rows (subst (λ (operators : List g.row.O.Denot). AreHeld o.makes o.holds operators forms rows) e held) comes is)
