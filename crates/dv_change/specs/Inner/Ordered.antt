-- Lists of anything at positions.
use Rattle.std.specs.Prelude.{List, Option}
use Rattle.std.specs.BTreeMap.{insert_entry, is_at}
use Rattle.std.specs.Map.{lookup, remove_entry}
use Rattle.dv_change.specs.Positions.{PosTree, pos_order}

module _ {V : Type 0} where
  -- the value at a position
  abbrev pub found_at : PosTree → List (PosTree × V) → Option V
  found_at pos es = lookup (is_at (pos_order pos)) es

  -- with this value at the position, in place of the one that is there, if any
  abbrev pub put : PosTree → V → List (PosTree × V) → List (PosTree × V)
  put pos v es = insert_entry pos_order es pos v

  -- without the value at the position
  abbrev pub gone : PosTree → List (PosTree × V) → List (PosTree × V)
  gone pos es = remove_entry (is_at (pos_order pos)) es
