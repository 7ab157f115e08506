use Rattle.std.proofs.Common.{◌≡◌, ◌∙◌, ap, sym}
use Rattle.dv_value.specs.Names.{value_at}
use Rattle.dv_value.specs.Tree.{Field}
use Rattle.dv_value.specs.View.{tree}
use Rattle.dv_value.proofs.Overlaid.{value_at-here}
use Rattle.dv_value.proofs.value.Document.add_shown.Goals as goal

pub returns-in_ok-try_clone-in-None-clause-ok : goal.returns-in_ok-try_clone-in-None-clause-ok
returns-in_ok-try_clone-in-None-clause-ok c =
    let f : Field = (c.field.result.0.now, tree c.field.result.1.now) in
    let same : value_at c.args.place c.args.from.now ≡ tree c.in_ok-try_clone-in-None.field-0 = value_at-here c.args.from.now c.args.place f c.field.ensures ∙ sym (ap tree c.in_ok-try_clone-in-None.ensures) in
    rw same c.add.ensures.ok
