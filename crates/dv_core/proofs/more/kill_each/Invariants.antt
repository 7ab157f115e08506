use Rattle.std.proofs.Common.{◌≡◌, ◌++◌, drop, length, take}
use Rattle.dv_core.specs.More.{went_each, without_cursors}
use Rattle.dv_core.proofs.more.kill_each.Given as goal

-- the ids so far had a cursor, which was ended, or had none
abbrev pub invariant-ids : goal.invariant-ids
invariant-ids l = record {
  long : length l.went.items ≡ length l.ids;
  told : take l.place l.went.items ++ went_each l.session l.namespace (drop l.place l.ids) l.cursors ≡ went_each l.session l.namespace l.ids l.fn.cursors;
  left : without_cursors l.session l.namespace (drop l.place l.ids) l.cursors ≡ without_cursors l.session l.namespace l.ids l.fn.cursors;
}
