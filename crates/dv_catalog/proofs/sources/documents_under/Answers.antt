use Rattle.std.proofs.Common.{◌≡◌, ℕ, ◌+◌, List, ◌∷◌, drop, sym, subst}
use Rattle.dv_value.specs.Tree.{Field}
use Rattle.dv_value.specs.Inner.ListLaws.{drop-read}
use Rattle.dv_catalog.specs.Inner.SourceParts.{with_list}
use Rattle.dv_catalog.specs.State.{AreOrdered, documents_of, lists_of}
use Rattle.dv_catalog.proofs.Sourced.{AreListed, each_ordered, next_listed, next_ordered}
use Rattle.dv_catalog.proofs.sources.documents_under.Goals as goal

pub names-preserved : goal.names-preserved
names-preserved c =
    let names : List (List ℕ) = c.args.names.now in
    let name : List ℕ = c.name-item.result in
    let rest : List (List ℕ) = drop (c.names.name-index + 1) names in
    let collections = c.args.collections.now in
    let left = drop-read names c.names.name-index name c.names-test.true c.name-item.is in
    let here : AreListed names (lists_of collections) c.names.sources (name ∷ rest) = subst (λ (ns : List (List ℕ)). AreListed names (lists_of collections) c.names.sources ns) left c.names.invariant.listed in
    let rows : c.rows-rows.result ≡ documents_of name collections = rw c.as_str.ensures at c.rows-rows.ensures.documents in
    let ordered : AreOrdered (documents_of name collections) = rw c.as_str.ensures at c.rows-rows.ensures.ordered in
    let added : c.add_rows.new.sources ≡ with_list name c.rows-rows.result c.names.sources = rw c.as_str-in-names.ensures at c.in_ok-add_rows.ensures in
    rw added (record {
      listed = next_listed names (lists_of collections) c.names.sources name rest here c.rows-rows.result rows;
      ordered = next_ordered name c.rows-rows.result c.names.sources c.names.invariant.ordered (subst (λ (ds : List (List Field)). AreOrdered ds) (sym rows) ordered);
    })

pub returns-clause-ordered : goal.returns-clause-ordered
returns-clause-ordered c = each_ordered c.args.names.now c.names.sources c.names.invariant.ordered
