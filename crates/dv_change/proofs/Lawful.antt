-- The laws that others cite.
use Rattle.dv_change.specs.Inner.DiffLaws.{apply-diff}
use Rattle.dv_change.specs.Inner.RowLaws.{pos_exact, same_rows}

pub ruleset lawful = (apply-diff, pos_exact, same_rows)
