use Rattle.std.proofs.Common.{sym, subst}
use Rattle.dv_core.specs.State.{State}
use Rattle.dv_core.specs.Step.{MemoryStep}
use Rattle.dv_core.specs.Told.{outcome_told}
use Rattle.dv_core.proofs.Steps.{made_steps, made_wants}
use Rattle.dv_core.proofs.store.Store.execute.Goals as goal

pub returns-clause-step : goal.returns-clause-step
returns-clause-step c =
    made_steps c.args.self.now c.args.session c.args.command.now c.made_of.new.self c.carry_out-told.result c.made_of.result
    (subst (λ (s : State). MemoryStep c.args.self.now c.args.session c.args.command.now (outcome_told c.carry_out-told.result) s) (sym c.made_of.ensures.state) c.carry_out-told.ensures.step) c.made_of.ensures.made

pub returns-clause-unread : goal.returns-clause-unread
returns-clause-unread c = λ unread. made_wants c.carry_out-told.result c.made_of.result c.made_of.ensures.made (c.carry_out-told.ensures.unread unread)
