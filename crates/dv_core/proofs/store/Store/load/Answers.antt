use Rattle.dv_core.proofs.Ordered.{kept_by_load}
use Rattle.dv_core.proofs.store.Store.load.Goals as goal

pub invariant_of-self : goal.invariant_of-self
invariant_of-self c =
    kept_by_load c.args.namespace.now c.args.document c.self.inside.machine c.load.new.self c.load.result
    (λ loads. c.states_stay_orderly.ensures.loaded c.self.inside.machine c.load.new.self c.args.namespace.now c.args.document c.self.invariant loads) c.load.ensures.loaded c.load.ensures.kept c.self.invariant
