-- The keys that are left ascend, and what they change is what is left to change.
use Rattle.std.proofs.Common.{◌≡◌, cond}
use Rattle.std.specs.BTreeSet.{contains}
use Rattle.std.specs.List.Sorted.{IsStrictlySortedBy}
use Rattle.dv_order.specs.Key.{KeyTree, key_order}
use Rattle.dv_join.specs.Inner.Indexed.{row_set, under}
use Rattle.dv_join.proofs.Indexes.{is_one_of}
use Rattle.dv_join.proofs.index.RowsByKey.set.Given as goal

abbrev pub invariant-keys : goal.invariant-keys
invariant-keys l = record {
  sorted : IsStrictlySortedBy key_order l.key-iterator;
  under : (k : KeyTree) → cond (is_one_of l.key-iterator k) (row_set l.pos l.row (under k l.self)) (under k l.self) ≡ cond (contains key_order l.fn.keys k) (row_set l.pos l.row (under k l.fn.self)) (under k l.fn.self);
}
