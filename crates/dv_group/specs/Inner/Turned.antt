-- $group, updated by changes: what it has taken in.
use Rattle.std.specs.Prelude.{[], map}
use Rattle.dv_change.specs.Changes.{Positioned}
use Rattle.dv_change.specs.Inner.Turning.{Turning}
use Rattle.dv_gather.specs.Grouping.{Grouping}
use Rattle.dv_group.specs.Inner.Held.{HoldsGroups}
use Rattle.dv_group.specs.Inner.Members.{AreLiveGroups}
use Rattle.dv_group.specs.Placed.{grouped_at}
use Rattle.dv_group.specs.declared.group_turn.GroupTurn.{GroupTurn}

-- what it groups by, and what it returns for each group
abbrev pub grouping_of : GroupTurn → Grouping
grouping_of t = t.keeping.operator.group

-- the rows that it has taken in
abbrev pub rows_left : GroupTurn → Positioned
rows_left t = t.keeping.rows.entries

-- its rows are at exact positions, in ascending order, and each group has those with its key, and the states over them
abbrev pub IsSoundGroups : GroupTurn → Type 0
IsSoundGroups t = AreLiveGroups (grouping_of t) t.keeping.operator.groups.entries × HoldsGroups t.keeping.operator (map (λ m. m.entries) t.keeping.lists.items) (rows_left t)

-- it is the stage of the groups, which reads no list
abbrev pub group_turning : Turning GroupTurn
group_turning = record { form = λ t. record { makes = λ named rows. grouped_at (grouping_of t) rows; named = [] }; left = rows_left; sound = IsSoundGroups }
