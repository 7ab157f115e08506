use Rattle.std.proofs.Common.{List, Option, map, subst, sym}
use Rattle.std.specs.Option.{IfSome}
use Rattle.dv_row.specs.Row.{Row}
use Rattle.dv_gather.specs.Grouping.{Accumulation}
use Rattle.dv_group.specs.Inner.SumBounds.{HaveRoom}
use Rattle.dv_group.specs.Inner.StateView.{state_seen}
use Rattle.dv_group.proofs.group_state.apply_some.Goals as goal

pub apply_each-requires : goal.apply_each-requires
apply_each-requires c =
    let p = c.args.pos.now in
    let states = map state_seen c.args.states.now.items in
    subst (λ (fields : List Accumulation). HaveRoom c.args.change fields p c.in-Some.row states) (sym c.fields.ensures)
    (subst (λ (row : Option Row). IfSome row (λ d. HaveRoom c.args.change c.args.group.now.fields p d states)) c.in-Some.is c.requires)
