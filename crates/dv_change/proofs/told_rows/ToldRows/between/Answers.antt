use Rattle.dv_change.proofs.told_rows.ToldRows.between.Goals as goal

pub returns : goal.returns
returns g c = c.range.ensures.between tt
