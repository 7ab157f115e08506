use Rattle.std.proofs.Common.{◌≡◌, subst}
use Rattle.std.specs.Prelude.{IfOk}
use Rattle.dv_row.proofs.Same.{same-row}
use Rattle.dv_row.proofs.project.row_left.Goals as goal

pub returns : goal.returns
returns c =
    subst (λ rows. IfOk c.document_left.result (λ left. left ≡ rows)) (same-row c.args.keeps c.ways.result c.args.paths.now c.args.row.now c.ways.ensures) c.document_left.ensures
