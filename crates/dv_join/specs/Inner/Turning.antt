-- Of `Turning`, what only bodies and proofs need.
use Rattle.std.specs.Prelude.{◌≡◌, Bool, false, List, [], ◌∷◌, Option, None, Some, map}
use Rattle.std.proofs.Common.{subst, sym}
use Rattle.std.specs.BTreeSet.{BTreeSet, contains}
use Rattle.std.specs.List.{AllByRecursion}
use Rattle.dv_value.specs.Tree.{Field}
use Rattle.dv_order.specs.Key.{KeyTree, key_order}
use Rattle.dv_path.specs.LeafKeys.{is_some_key, leaf_values}
use Rattle.dv_gather.specs.declared.lookup.Lookup.{Lookup}
use Rattle.dv_gather.specs.Joining.{joined_by}
use Rattle.dv_change.specs.Changes.{Positioned}
use Rattle.dv_change.specs.Inner.Changes.{IsPositioned}
use Rattle.dv_change.specs.Inner.Turning.{Turning}
use Rattle.dv_join.specs.declared.lookup.LookupTurn.{LookupTurn}
use Rattle.dv_join.specs.declared.operator.LookupOperator.{LookupOperator}
use Rattle.dv_join.specs.Inner.Indexed.{IsJoinIndexOf}
use Rattle.dv_join.specs.Placed.{looked_up_at}
use Rattle.dv_join.specs.Turning.{first_input}

-- whether k is the key of a value by which a row is looked up
abbrev pub has_local : Lookup → KeyTree → List Field → Bool
has_local l k d = is_some_key k (joined_by l.local d)

-- whether k is the key of a value under which a document is found
abbrev pub has_foreign : Lookup → KeyTree → List Field → Bool
has_foreign l k d = is_some_key k (leaf_values l.foreign d)

-- a test of a document, false if there is none
abbrev pub if_any : (List Field → Bool) → Option (List Field) → Bool
if_any test None = false
if_any test (Some d) = test d

-- these are the keys of the values by which a row is looked up, if there is one
abbrev pub AreLocalKeys : Lookup → Option (List Field) → BTreeSet KeyTree → Type 0
AreLocalKeys l row keys = (k : KeyTree) → contains key_order keys k ≡ if_any (has_local l k) row

-- what an operator may have taken in: one list, and rows; both are at exact positions, in ascending order, and are indexed by their
-- keys
pub record HoldsJoin (o : LookupOperator) (others : List Positioned) (rows : Positioned) : Type 0 where
  pub left : IsPositioned rows
  pub foreign : IsPositioned (first_input others)
  pub left_by : IsJoinIndexOf (has_local o.lookup) rows o.left_by
  pub foreign_by : IsJoinIndexOf (has_foreign o.lookup) (first_input others) o.foreign_by
  pub one : others ≡ first_input others ∷ []

pub join_positioned : (o : LookupOperator) (others : List Positioned) (rows : Positioned) → HoldsJoin o others rows → AllByRecursion (λ (rows : Positioned). IsPositioned rows) others
join_positioned o others rows held = subst (λ (all : List Positioned). AllByRecursion (λ (rows : Positioned). IsPositioned rows) all) (sym held.one) (held.foreign, tt)

-- the look-up
abbrev pub lookup_kept : LookupTurn → Lookup
lookup_kept t = t.keeping.operator.lookup

-- the rows that it has taken in
abbrev pub lookup_left : LookupTurn → Positioned
lookup_left t = t.keeping.rows.entries

-- the rows of the list that it reads
abbrev pub lookup_others : LookupTurn → List Positioned
lookup_others t = map (λ m. m.entries) t.keeping.lists.items

-- each row with the documents of the first list that it is joined with
abbrev pub lookup_makes : LookupTurn → List Positioned → Positioned → Positioned
lookup_makes t named rows = looked_up_at (lookup_kept t) rows (first_input named)

-- the rows of both sides are at exact positions, in ascending order, and are indexed by their keys
abbrev pub IsSoundJoin : LookupTurn → Type 0
IsSoundJoin t = HoldsJoin t.keeping.operator (lookup_others t) (lookup_left t)

-- it is the stage of the joined rows, which reads the list
abbrev pub lookup_turning : Turning LookupTurn
lookup_turning = record { form = λ t. record { makes = lookup_makes t; named = lookup_others t }; left = lookup_left; sound = IsSoundJoin }
