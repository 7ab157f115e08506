use Rattle.std.proofs.Common.{◌∙◌, ap, sym, add-one, arith}
use Rattle.std.proofs.lemmas.Grind.{common_steps}
use Rattle.dv_row.specs.Inner.EachLaws.{drop-past}
use Rattle.dv_gather.specs.Inner.SumBounds.{most}
use Rattle.dv_gather.specs.View.{referred}
use Rattle.dv_gather.specs.Inner.GroupStates.{groups_with_rows}
use Rattle.dv_gather.specs.Inner.StateView.{groups_seen}
use Rattle.dv_gather.proofs.Bounded.{each-later}
use Rattle.dv_gather.proofs.group.Group.groups.Goals as goal

pub add-requires : goal.add-requires
add-requires c = each-later c.rows.row-index most (groups_seen c.rows.groups.entries) (omega arith) c.rows.invariant.within

pub rows-preserved : goal.rows-preserved
rows-preserved c = record {
  rows = grind (arith, common_steps, c.rows.invariant.rows, c.in_ok-add.ensures.groups);
  within = rw add-one (c.in_ok-add.ensures.within c.rows.row-index c.rows.invariant.within);
}

pub returns : goal.returns
returns c = sym (ap (λ l. groups_with_rows c.args.self.now (referred l) (groups_seen c.rows.groups.entries)) (drop-past c.args.rows.now c.rows.row-index c.rows-test.false)) ∙ c.rows.invariant.rows
