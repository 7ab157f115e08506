use Rattle.std.proofs.Common.{rules}
use Rattle.dv_load.proofs.Loads.{why_refused}
use Rattle.dv_load.proofs.load.load_first.Goals as goal

pub returns-in-Err-load-clause-why : goal.returns-in-Err-load-clause-why
returns-in-Err-load-clause-why c =
    why_refused c.args.namespace.now c.args.store.now c.args.bytes.now c.args.number c.args.at _ _ c.in-Err-load.code _ c.fault_of_code.result c.in-Ok.ensures.found c.in-Err-load.ensures.code
    c.fault_of_code.ensures.either (search rules)
