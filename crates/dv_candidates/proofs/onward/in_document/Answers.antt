use Rattle.std.proofs.Common.{sym}
use Rattle.dv_value.specs.View.{tree}
use Rattle.dv_candidates.proofs.Items.{value_weighs_less}
use Rattle.dv_candidates.proofs.Stands.{within-behind, behind-reaches, reaches-behind}
use Rattle.dv_candidates.proofs.onward.in_document.Goals as goal

pub returns-clause-stand : goal.returns-clause-stand
returns-clause-stand c =
    let before = c.requires in
    let fs = c.args.document.now in
    let v = tree c.in_ok-value.value.now in
    rw c.behind.ensures (record {
      within = within-behind before;
      reaches = behind-reaches before c.in_ok-name.ensures fs v (sym c.in_ok-value.ensures);
      reached = reaches-behind before c.in_ok-name.ensures fs v (sym c.in_ok-value.ensures);
    })

pub returns-clause-weight : goal.returns-clause-weight
returns-clause-weight c = value_weighs_less c.in_ok-name.name.now c.args.document.now (tree c.in_ok-value.value.now) (sym c.in_ok-value.ensures)
