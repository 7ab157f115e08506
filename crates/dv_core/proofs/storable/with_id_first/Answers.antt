use Rattle.std.specs.Prelude.{IfOk}
use Rattle.std.proofs.Common.{List, ◌≡◌, subst}
use Rattle.dv_value.specs.Tree.{Field}
use Rattle.dv_value.specs.View.{tree}
use Rattle.dv_core.proofs.Stored.{first_already}
use Rattle.dv_core.proofs.storable.with_id_first.Goals as goal

pub returns-in-Some : goal.returns-in-Some
returns-in-Some c =
    let same = first_already c.args.document.now c.in-Some.name.now (tree c.in-Some.field-0-1.now) (tree c.args.id.now) c.in-Some.ensures c.if-eq.ensures c.requires in
    subst (λ (d : List Field). IfOk c.try_clone.result (λ copy. copy ≡ d)) same c.try_clone.ensures
