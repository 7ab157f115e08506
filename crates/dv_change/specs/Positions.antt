-- Positions: the places of rows in the order of a collection, or of the rows that a stage returns.
use Rattle.std.specs.Prelude.{ℕ, List, ⊤}
use Rattle.std.specs.declared.cmp.Ordering.{Ordering}
use Rattle.std.specs.Ordering.{nat_cmp}
use Rattle.std.specs.Cmp.Lexicographic.{slice_cmp}
use Rattle.std.specs.List.{AllByRecursion}
use Rattle.dv_order.specs.Key.{key_order}
use Rattle.dv_order.specs.OwnKeys.{IsOwn}
use Rattle.dv_change.specs.declared.position.Part.{Part}
use Rattle.dv_change.specs.declared.position.Part.TheVariants.{Up, Down, At}

-- a position is a list of parts, each a key, ascending or descending, or a number
abbrev pub PosTree : Type 0
PosTree = List Part

-- the rank of a part's kind
abbrev pub kind : Part → ℕ
kind (Up k) = 0
kind (Down k) = 1
kind (At n) = 2

-- The order of two parts: by key for `Up`, by key in reverse for `Down`, by number for `At`. Parts of different kinds are ordered by
-- kind.
abbrev pub part_order : Part → Part → Ordering
part_order (Up k) (Up l) = key_order k l
part_order (Down k) (Down l) = key_order l k
part_order (At m) (At n) = nat_cmp m n
part_order a b = nat_cmp (kind a) (kind b)

-- the first parts that differ decide; a position that begins another comes first
abbrev pub pos_order : PosTree → PosTree → Ordering
pos_order = slice_cmp part_order

-- the key in the part is the key of a value, or of no element
abbrev pub IsExactPart : Part → Type 0
IsExactPart (Up k) = IsOwn k
IsExactPart (Down k) = IsOwn k
IsExactPart (At n) = ⊤

-- each key in the position's parts is the key of a value, or of no element
abbrev pub IsExact : PosTree → Type 0
IsExact pos = AllByRecursion IsExactPart pos
