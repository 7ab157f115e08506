-- The rows under the keys that are left are still to be added.
use Rattle.std.proofs.Common.{◌≡◌, []}
use Rattle.std.specs.BTreeSet.{union}
use Rattle.dv_order.specs.Key.{key_order}
use Rattle.dv_join.specs.Inner.Indexed.{under}
use Rattle.dv_join.proofs.Indexes.{all_under}
use Rattle.dv_join.proofs.index.RowsByKey.rows_under.Given as goal

abbrev pub invariant-keys : goal.invariant-keys
invariant-keys l = all_under (λ k. under k l.self) l.key-iterator l.found ≡ all_under (λ k. under k l.self) (union key_order l.fn.keys l.others) []
