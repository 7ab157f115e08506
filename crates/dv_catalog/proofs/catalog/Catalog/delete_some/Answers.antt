use Rattle.std.proofs.Common.{◌≡◌, ◌∙◌, subst, arith}
use Rattle.dv_command.specs.Inner.View.{deletion_seen}
use Rattle.dv_catalog.specs.Effects.{delete_chosen}
use Rattle.dv_catalog.specs.Marks.{Marked}
use Rattle.dv_catalog.specs.Inner.Parts.{Cuts}
use Rattle.dv_catalog.proofs.Cutting.{still_uncut}
use Rattle.dv_catalog.proofs.catalog.Catalog.delete_some.Goals as goal

pub halves-preserved : goal.halves-preserved
halves-preserved c =
    let statement = delete_chosen (deletion_seen c.args.deletion.now) in
    let none : c.delete_first-stopped.result.done ≡ 0 = omega (arith, c.if-stopped-gt0.false) in
    still_uncut c.args.namespace.now statement c.halves.self c.delete_first-stopped.result c.delete_first-stopped.new.self none c.delete_first-stopped.ensures ∙ c.halves.invariant

pub returns-then-stopped-gt0 : goal.returns-then-stopped-gt0
returns-then-stopped-gt0 c =
    let statement = delete_chosen (deletion_seen c.args.deletion.now) in
    subst (λ (old : Marked). Cuts c.args.namespace.now statement old c.delete_first-stopped.result c.delete_first-stopped.new.self) c.halves.invariant c.delete_first-stopped.ensures

pub returns : goal.returns
returns c =
    let statement = delete_chosen (deletion_seen c.args.deletion.now) in
    subst (λ (old : Marked). Cuts c.args.namespace.now statement old c.delete_first.result c.delete_first.new.self) c.halves.invariant c.delete_first.ensures
