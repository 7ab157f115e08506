-- Under each key are the rows that were there.
use Rattle.std.proofs.Common.{subst}
use Rattle.std.specs.BTreeMap.{BTreeMap, IsFromIterResult}
use Rattle.std.specs.List.Sorted.{IsStrictlySortedBy}
use Rattle.std.specs.Map.{keys_of}
use Rattle.dv_change.specs.Changes.{Positioned}
use Rattle.dv_order.specs.Key.{KeyTree, key_order}
use Rattle.dv_join.proofs.Indexes.{under-packed}
use Rattle.dv_join.proofs.index.RowsByKey.pack.Goals as goal

pub returns : goal.returns
returns c =
    let same = c.replace-under.ensures.value in
    let sorted = subst (λ (m : BTreeMap KeyTree Positioned). IsStrictlySortedBy key_order (keys_of m.entries)) same c.in_ok-self.ensures.ordered in
    let made = subst (λ (m : BTreeMap KeyTree Positioned). IsFromIterResult key_order m.entries c.in_ok-self.field-0) same c.in_ok-self.ensures.made in
    under-packed c.args.self.now (record { alloc = c.args.self.now.alloc; under = c.in_ok-self.field-0 }) sorted made
