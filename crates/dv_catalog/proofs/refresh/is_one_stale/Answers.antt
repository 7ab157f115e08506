use Rattle.std.proofs.Common.{◌≡◌, ℕ, ◌+◌, List, ◌∷◌, drop, true, false, sym, ap, subst, ◌∙◌, arith}
use Rattle.std.proofs.lemmas.List.{drop_all}
use Rattle.dv_catalog.specs.Inner.CatalogParts.{is_one_stale}
use Rattle.dv_catalog.proofs.Stale.{live_each, stale_on}
use Rattle.dv_catalog.proofs.refresh.is_one_stale.Goals as goal
use Rattle.dv_value.specs.Inner.ListLaws.{drop-read}

pub names-preserved : goal.names-preserved
names-preserved c =
    let names : List (List ℕ) = c.args.names.now in
    let name : List ℕ = c.name-item.result in
    let vs = c.args.registry.now in
    let rest : List (List ℕ) = drop (c.names.name-index + 1) names in
    let left = drop-read names c.names.name-index name c.names-test.true c.name-item.is in
    let here : is_one_stale (name ∷ rest) vs ≡ is_one_stale names vs = subst (λ (ns : List (List ℕ)). is_one_stale ns vs ≡ is_one_stale names vs) left c.names.invariant in
    stale_on vs name rest (is_one_stale names vs) here false (sym c.if-is_stale.false ∙ rw c.as_str.ensures at c.is_stale.ensures)

pub returns-then-is_stale-clause-stale : goal.returns-then-is_stale-clause-stale
returns-then-is_stale-clause-stale c =
    let names : List (List ℕ) = c.args.names.now in
    let name : List ℕ = c.name-item.result in
    let vs = c.args.registry.now in
    let rest : List (List ℕ) = drop (c.names.name-index + 1) names in
    let left = drop-read names c.names.name-index name c.names-test.true c.name-item.is in
    let here : is_one_stale (name ∷ rest) vs ≡ is_one_stale names vs = subst (λ (ns : List (List ℕ)). is_one_stale ns vs ≡ is_one_stale names vs) left c.names.invariant in
    stale_on vs name rest (is_one_stale names vs) here true (sym c.if-is_stale.true ∙ rw c.as_str.ensures at c.is_stale.ensures)

pub returns-clause-live : goal.returns-clause-live
returns-clause-live c = λ _.
    let all = c.args.names.now in
    let none : is_one_stale all c.args.registry.now ≡ false = sym c.names.invariant ∙ ap (λ (ns : List (List ℕ)). is_one_stale ns c.args.registry.now) (drop_all c.names.name-index all (omega (arith, c.names-test.false))) in
    live_each all c.args.registry.now c.law_sound.ensures.apart none
