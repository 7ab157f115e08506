-- The operator for $group: what it may have taken in.
use Rattle.std.specs.Prelude.{◌≡◌, List, []}
use Rattle.dv_change.specs.Changes.{Positioned}
use Rattle.dv_change.specs.Inner.Changes.{IsPositioned}
use Rattle.dv_group.specs.Inner.Members.{AreMembers, group_members}
use Rattle.dv_group.specs.declared.group_operator.GroupOperator.{GroupOperator}

-- no lists, and rows at exact positions, in ascending order; each group has those with its key
pub record HoldsGroups (o : GroupOperator) (others : List Positioned) (left : Positioned) : Type 0 where
  pub positioned : IsPositioned left
  pub members : AreMembers o.group (λ k. group_members k o.groups.entries) left
  pub none : others ≡ []
