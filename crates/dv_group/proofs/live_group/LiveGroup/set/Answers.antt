use Rattle.std.proofs.Common.{◌∙◌, None, ap, refl}
use Rattle.dv_group.specs.declared.group_state.GroupState.{GroupState}
use Rattle.dv_group.proofs.Under.{live-of}
use Rattle.dv_group.proofs.live_group.LiveGroup.set.Goals as goal

pub settle-requires : goal.settle-requires
settle-requires c = let state = c.set.new.self in live-of c.args.group.now state (record { state = state; row = None }) refl refl c.in_ok-set.ensures.sound

pub returns-clause-rows : goal.returns-clause-rows
returns-clause-rows c = ap (λ (b : GroupState). b.members) c.settle.ensures.state ∙ c.in_ok-set.ensures.rows

pub returns-clause-shown : goal.returns-clause-shown
returns-clause-shown c = (c.in_ok-before.ensures, c.beside.ensures c.args.group.now c.settle.new.self.state.members c.in_ok-after.after c.in_ok-after.ensures.shown)
