use Rattle.std.proofs.Common.{◌≡◌, Bool, true, false, is_some, inl, length, refl, sym, ap, ◌∙◌}
use Rattle.std.proofs.lemmas.Result.{IfOk-weaker}
use Rattle.std.specs.Option.{option_map}
use Rattle.dv_catalog.specs.IndexMaking.{without_named}
use Rattle.dv_catalog.specs.State.{Collection, is_collection}
use Rattle.dv_catalog.specs.Inner.View.{standing_by_namespace, standing_seen}
use Rattle.dv_catalog.proofs.ByNamespace.{collection-there, get-standing, none-there, same-written, standing-written}
use Rattle.dv_catalog.proofs.MadeIndexes.{drops_by, dropped_there, leaves_there}
use Rattle.dv_catalog.proofs.collections.Collections.drop_indexes.Goals as goal

pub returns-in_default-clause-made : goal.returns-in_default-clause-made
returns-in_default-clause-made c =
    let name = c.args.namespace.now in
    let old = standing_by_namespace c.self.inside.collections in
    let none : is_collection name old ≡ false = ap is_some (none-there c.self.inside.collections name c.in_default.ensures.value) in
    rw (← c.self.view_is) (rw c.get_mut.follows.holds-at-none (inl (ap (λ (b : Bool). drops_by b name c.args.name.now old) none), refl))

pub returns-clause-made : goal.returns-clause-made
returns-clause-made c =
    let name = c.args.namespace.now in
    let old = standing_by_namespace c.self.inside.collections in
    let there = c.in-Some.ensures.value in
    let written = c.drop_named.new.collection in
    let now = standing-written c.self.inside.collections (c.get_mut.follows.lender written) name _ written there (c.get_mut.follows.holds written) in
    let is : is_collection name old ≡ true = ap is_some (get-standing c.self.inside.collections name ∙ ap (option_map standing_seen) (sym there)) in
    rw (← c.self.view_is)
    (dropped_there name c.args.name.now old _ c.drop_named.result (is_collection name old) is
    (leaves_there old name _ (collection-there c.self.inside.collections name _ there) (λ x. without_named c.args.name.now x.indexes) c.drop_named.result written _ (same-written c.self.inside.collections name _ there) c.drop_named.ensures.made now))

pub returns-clause-count : goal.returns-clause-count
returns-clause-count c =
    let name = c.args.namespace.now in
    let are = collection-there c.self.inside.collections name _ c.in-Some.ensures.value in
    rw (← c.self.view_is) (IfOk-weaker c.drop_named.result _ _ (λ count is. is ∙ ap (λ (x : Collection). length x.indexes) (sym are)) c.drop_named.ensures.count)
