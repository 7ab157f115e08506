use Rattle.std.proofs.Common.{sym, ◌∙◌}
use Rattle.dv_core.proofs.Parted.{is_namespace}
use Rattle.dv_core.proofs.loading.namespace_in.Goals as goal

pub returns-in-Some : goal.returns-in-Some
returns-in-Some c =
    let text = c.args.text.now in
    let filled = sym c.if-is_filled.true ∙ c.is_filled.ensures in
    let same = is_namespace text c.in-Some.database c.in-Some.collection c.in-Some.ensures.cases filled in
    rw (← same) c.namespace.ensures
