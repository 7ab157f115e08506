-- If a value is set in the first ones of both, the outermost ones become the same.
use Rattle.std.proofs.Common.{◌≡◌, Some, take}
use Rattle.dv_value.specs.Tree.{Tree}
use Rattle.dv_row.specs.Inner.Crossings.{set_inward}
use Rattle.dv_row.proofs.way.are_like.Given as goal

abbrev pub invariant-places : goal.invariant-places
invariant-places l = (v : Tree) → set_inward (take l.place l.inner) (Some v) ≡ set_inward (take l.place l.others) (Some v)
