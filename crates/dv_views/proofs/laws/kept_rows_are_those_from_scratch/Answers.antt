use Rattle.dv_views.proofs.Scratch.{from_scratch}
use Rattle.dv_views.proofs.laws.kept_rows_are_those_from_scratch.Goals as goal

pub returns : goal.returns
returns c =
    let simple = c.rows_without_positions_are_those_of_the_stage.ensures in
    from_scratch
    (record {
      matched = simple.matched;
      shown = simple.shown;
      unwinds = simple.unwound;
      sorted = simple.sorted;
      first = simple.first;
      groups = c.grouped_rows_are_the_rows_of_groups.ensures;
      joined = c.joined_rows_are_the_rows_looked_up.ensures;
    })
