use Rattle.dv_value.proofs.Last.{place_at}
use Rattle.dv_value.proofs.name_list.Names.place_of.Goals as goal

pub returns-then-is_at-clause-place : goal.returns-then-is_at-clause-place
returns-then-is_at-clause-place c = place_at c.args.name.now c.get-last.result c.args.self.now (c.is_at.ensures.0 c.if-is_at.true) (rw (← c.self.view_is) c.self.invariant.0)
