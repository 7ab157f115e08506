use Rattle.std.proofs.Common.{◌≡◌, map, ap, sym, ◌∙◌}
use Rattle.std.specs.String.{string_bytes}
use Rattle.dv_keyed.specs.Inner.View.{form_of_new}
use Rattle.dv_catalog.specs.IndexMaking.{with_all}
use Rattle.dv_catalog.specs.State.{collection_at, collection_of}
use Rattle.dv_catalog.proofs.ByNamespace.{standing-insert}
use Rattle.dv_catalog.proofs.MadeIndexes.{counts_there, made_there, stands_there}
use Rattle.dv_catalog.proofs.collections.Collections.create_indexed.Goals as goal

pub returns-clause-made : goal.returns-clause-made
returns-clause-made c =
    let name = c.args.namespace.now in
    let old = c.args.self.now in
    let written = c.create_each.new.collection in
    let are : collection_of name old ≡ c.in_ok-collection.collection = ap collection_at c.requires ∙ sym c.in_ok-collection.ensures in
    let put = standing-insert c.self.inside.collections c.insert.new.self (string_bytes c.in_ok-namespace.namespace) written c.in_ok-insert.ensures.updates in
    made_there old name c.in_ok-collection.collection are (with_all (map form_of_new c.args.entries.items)) written _ c.in_ok-counts.ensures.made (rw (c.self.view_is, c.in_ok-namespace.ensures.ok) at put)

pub returns-clause-counts : goal.returns-clause-counts
returns-clause-counts c =
    let name = c.args.namespace.now in
    let old = c.args.self.now in
    let written = c.create_each.new.collection in
    let are : collection_of name old ≡ c.in_ok-collection.collection = ap collection_at c.requires ∙ sym c.in_ok-collection.ensures in
    let put = standing-insert c.self.inside.collections c.insert.new.self (string_bytes c.in_ok-namespace.namespace) written c.in_ok-insert.ensures.updates in
    counts_there old _ name _ written c.in_ok-counts.counts are (stands_there old name written _ (rw (c.self.view_is, c.in_ok-namespace.ensures.ok) at put)) c.in_ok-counts.ensures.counts
