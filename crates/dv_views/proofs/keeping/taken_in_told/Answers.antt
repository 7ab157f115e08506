-- If there are no changes, the rows stay the same.
use Rattle.std.proofs.Common.{◌≡◌, List, Option, None, Some, ap, subst, sym}
use Rattle.std.specs.Option.{option_map}
use Rattle.dv_change.specs.declared.taking.Taken as taking
use Rattle.dv_change.specs.declared.told_rows.ToldRows.{ToldRows}
use Rattle.dv_views.specs.declared.stage_operator.StageOperator.{StageOperator}
use Rattle.dv_views.specs.Inner.Keeping.{kept_seen}
use Rattle.dv_views.specs.Inner.Turned.{Turns, coming}
use Rattle.dv_views.specs.Inner.ResultLaws.{ok_then}
use Rattle.dv_views.proofs.Rolling.{turns_none}
use Rattle.dv_views.proofs.keeping.taken_in_told.Goals as goal

pub returns-in-Some-clause-turns : goal.returns-in-Some-clause-turns
returns-in-Some-clause-turns c =
    let first = c.args.told.now.items in
    let now = c.taken_in_each.new.told.items in
    let same : option_map (λ all. all.now) c.args.all ≡ Some c.in-Some.all.now = ap (option_map (λ all. all.now)) c.in-Some.is in
    ok_then c.taken_in_each.result c.taken_in_each.ensures.turns (λ (after : ToldRows StageOperator) turns.
    subst (λ (o : Option (List taking.Taken)). Turns (coming c.args.input o) (kept_seen c.args.rows) first (kept_seen after) now) (sym same) turns)

pub returns-in-None-clause-turns : goal.returns-in-None-clause-turns
returns-in-None-clause-turns c =
    let first = c.args.told.now.items in
    let same : option_map (λ all. all.now) c.args.all ≡ None = ap (option_map (λ all. all.now)) c.in-None.is in
    subst (λ (o : Option (List taking.Taken)). Turns (coming c.args.input o) (kept_seen c.args.rows) first (kept_seen c.args.rows) first) (sym same) (turns_none (kept_seen c.args.rows) first)
