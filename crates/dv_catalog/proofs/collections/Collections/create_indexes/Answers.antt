use Rattle.dv_catalog.specs.IndexMaking.{with_all}
use Rattle.std.proofs.Common.{map}
use Rattle.std.proofs.lemmas.Result.{IfOk-weaker}
use Rattle.dv_keyed.specs.Inner.View.{form_of_new}
use Rattle.dv_catalog.specs.Inner.View.{standing_by_namespace}
use Rattle.dv_catalog.proofs.ByNamespace.{collection-there, none-there, standing-written, same-written}
use Rattle.dv_catalog.proofs.MadeIndexes.{counts_there, leaves_there, stands_there}
use Rattle.dv_catalog.proofs.collections.Collections.create_indexes.Goals as goal

pub create_indexed-requires : goal.create_indexed-requires
create_indexed-requires c = rw c.get_mut.follows.holds-at-none (none-there c.self.inside.collections c.args.namespace.now c.in-None.ensures.value)

pub returns-in-Some-clause-made : goal.returns-in-Some-clause-made
returns-in-Some-clause-made c =
    let name = c.args.namespace.now in
    let old = standing_by_namespace c.self.inside.collections in
    let there = c.in-Some.ensures.value in
    let written = c.create_each.new.collection in
    let now = standing-written c.self.inside.collections (c.get_mut.follows.lender written) name _ written there (c.get_mut.follows.holds written) in
    rw (← c.self.view_is)
    (leaves_there old name _ (collection-there c.self.inside.collections name _ there) (with_all (map form_of_new c.args.entries.items)) c.create_each.result written _ (same-written c.self.inside.collections name _ there) c.create_each.ensures.made now)

pub returns-in-Some-clause-counts : goal.returns-in-Some-clause-counts
returns-in-Some-clause-counts c =
    let name = c.args.namespace.now in
    let old = standing_by_namespace c.self.inside.collections in
    let there = c.in-Some.ensures.value in
    let written = c.create_each.new.collection in
    let now = standing-written c.self.inside.collections (c.get_mut.follows.lender written) name _ written there (c.get_mut.follows.holds written) in
    rw (← c.self.view_is)
    (IfOk-weaker c.create_each.result _ _ (λ counts is. counts_there old _ name _ written counts (collection-there c.self.inside.collections name _ there) (stands_there old name written _ now) is) c.create_each.ensures.counts)
