use Rattle.std.proofs.Common.{◌≡◌, ℕ, ◌+◌, List, ◌∷◌, drop, subst}
use Rattle.dv_catalog.specs.Inner.CatalogParts.{rows_kept}
use Rattle.dv_catalog.specs.Inner.SourceParts.{with_list}
use Rattle.dv_catalog.proofs.Sourced.{AreListed, next_listed}
use Rattle.dv_catalog.proofs.sources.rows_under.Goals as goal
use Rattle.dv_value.specs.Inner.ListLaws.{drop-read}

pub names-preserved : goal.names-preserved
names-preserved c =
    let names : List (List ℕ) = c.args.names.now in
    let name : List ℕ = c.name-item.result in
    let rest : List (List ℕ) = drop (c.names.name-index + 1) names in
    let lists = λ (n : List ℕ). rows_kept n c.args.collections.now c.args.registry.now in
    let left = drop-read names c.names.name-index name c.names-test.true c.name-item.is in
    let here : AreListed names lists c.names.sources (name ∷ rest) = subst (λ (ns : List (List ℕ)). AreListed names lists c.names.sources ns) left c.names.invariant in
    let rows : c.rows_in-rows.result ≡ lists name = rw c.as_str.ensures at c.rows_in-rows.ensures in
    let added : c.add_rows.new.sources ≡ with_list name c.rows_in-rows.result c.names.sources = rw c.as_str-in-names.ensures at c.in_ok-add_rows.ensures in
    rw added (next_listed names lists c.names.sources name rest here c.rows_in-rows.result rows)
