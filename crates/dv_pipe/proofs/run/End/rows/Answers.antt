use Rattle.std.proofs.Common.{◌≡◌, ◌∙◌, ap, sym, subst}
use Rattle.std.specs.Prelude.{IfOk}
use Rattle.dv_sort.specs.Sorting.{front}
use Rattle.dv_pipe.specs.Inner.Parts.{ended}
use Rattle.dv_pipe.specs.Sources.{rows_referred}
use Rattle.dv_pipe.proofs.Steps.{through-none}
use Rattle.dv_pipe.proofs.run.End.rows.Goals as goal

pub returns-in-Front : goal.returns-in-Front
returns-in-Front c =
    let documents = rows_referred c.args.documents.now in
    subst (λ left. IfOk c.each.result (λ rows. rows.items ≡ left)) (ap (front c.in-Front.most) (through-none documents) ∙ ap (λ e. ended e documents) (sym c.in-Front.is)) c.each.ensures
