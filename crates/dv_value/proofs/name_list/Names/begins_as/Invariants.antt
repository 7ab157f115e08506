use Rattle.std.proofs.Common.{◌≡◌, ◌≤◌, length, take}
use Rattle.dv_value.proofs.name_list.Names.begins_as.Given as goal

abbrev pub invariant-loop-place : goal.invariant-loop-place
invariant-loop-place l = record {
  within : l.place ≤ length l.other;
  same : take l.place l.self ≡ take l.place l.other;
}
