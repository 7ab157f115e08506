-- Rows put among others: a definition that bodies use.
use Rattle.std.specs.Prelude.{fold}
use Rattle.dv_change.specs.Changes.{Positioned}
use Rattle.dv_change.specs.Inner.Ordered.{put}

-- rows with others, each of which replaces the row at its position, if there is one
abbrev pub with_each_row : Positioned → Positioned → Positioned
with_each_row rows others = fold (λ es e. put e.0 e.1 es) rows others
