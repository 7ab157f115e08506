-- The values of $in and $all in memory, and copies of them, each once, in order.
use Rattle.std.specs.Prelude.{◌≡◌, ◌==◌, ◌<◌, ℕ, Bool, false, List, map, length, Option, Some, None, slice_index_or}
use Rattle.std.specs.List.{list_any}
use Rattle.std.specs.List.Sorted.{IsStrictlySortedBy}
use Rattle.std.specs.Option.{IfSome}
use Rattle.std.specs.Ordering.{is_eq}
use Rattle.std.specs.declared.cmp.Ordering.{Ordering}
use Rattle.std.specs.declared.cmp.Ordering.TheVariants.{Equal}
use Rattle.dv_value.specs.Tree.{Tree}
use Rattle.dv_value.specs.View.{tree}
use Rattle.dv_value.specs.declared.value.Value.{Value}
use Rattle.dv_order.specs.Order.{order}

abbrev pub value_order : Value → Value → Ordering
value_order v w = order (tree v) (tree w)

-- values ascend, and no two of them compare equal
abbrev pub Ascend : List Value → Type 0
Ascend values = IsStrictlySortedBy value_order values

-- a test has the same result for values that compare equal
abbrev pub RespectsEqual : (Tree → Bool) → Type 0
RespectsEqual test = (v w : Tree) → order v w ≡ Equal → test v ≡ test w

-- the values ascend, and one of them passes such a test exactly if one of the list does
pub record AreChoicesInOrder (vs : List Tree) (values : List Value) : Type 0 where
  pub ascending : Ascend values
  pub same : (test : Tree → Bool) → RespectsEqual test → list_any test (map tree values) ≡ list_any test vs

abbrev pub is_place : Option ℕ → ℕ → Bool
is_place None k = false
is_place (Some place) k = k == place

-- where a value compares equal to one of the values; nowhere if there is no place
pub record IsPlaceOf (v : Tree) (values : List Value) (place : Option ℕ) : Type 0 where
  pub within : IfSome place (λ k. k < length values)
  pub at : (k : ℕ) (d : Value) → k < length values → is_eq (order v (tree (slice_index_or values k d))) ≡ is_place place k
