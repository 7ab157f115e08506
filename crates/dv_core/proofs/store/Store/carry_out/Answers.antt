use Rattle.std.proofs.Common.{inr, refl}
use Rattle.dv_refusal.specs.declared.refusal.Refusal.TheVariants.{WantOfMemory}
use Rattle.dv_core.proofs.Steps.{refusal_steps}
use Rattle.dv_core.proofs.store.Store.carry_out.Goals as goal

pub returns-then-not-prepare-clause-step : goal.returns-then-not-prepare-clause-step
returns-then-not-prepare-clause-step c = rw (← c.self.view_is) (refusal_steps c.self.inside.machine c.args.session c.args.command.now WantOfMemory c.refuse.result (inr refl) c.refuse.ensures)
