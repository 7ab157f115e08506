-- The removals so far, and those that are left, are all removals.
use Rattle.std.proofs.Common.{◌≡◌, ◌++◌}
use Rattle.dv_change.specs.Inner.Beginning.{BeginsWith}
use Rattle.dv_change.specs.Inner.Told.{gones_told}
use Rattle.dv_change.proofs.handing.push_gones.Given as goal

abbrev pub invariant-others : goal.invariant-others
invariant-others l = record {
  out : l.out.items ++ gones_told l.pos-iterator l.fn.new ≡ l.fn.out.items ++ gones_told l.fn.old l.fn.new;
  begins : BeginsWith l.out.items l.fn.out.items;
}
