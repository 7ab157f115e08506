use Rattle.std.proofs.Common.{ℕ, List, sym, subst, ◌∙◌}
use Rattle.std.proofs.lemmas.Result.{IfOk-weaker}
use Rattle.dv_pipe.specs.Sources.{lists_of, rows_referred}
use Rattle.dv_pipe.specs.Stages.{Lists}
use Rattle.dv_views.specs.Inner.Made.{AreAlike}
use Rattle.dv_views.specs.Placed.{lookups_of}
use Rattle.dv_catalog.specs.Inner.CatalogParts.{rows_kept}
use Rattle.dv_catalog.proofs.Sourced.{looked_among}
use Rattle.dv_catalog.proofs.behind.rows_at_once.Goals as goal

pub returns : goal.returns
returns c =
    let stages = c.args.stages.now in
    let source = c.args.source.now in
    let kept : Lists = λ name. rows_kept name c.args.collections.now c.args.registry.now in
    let lists = lists_of c.in_ok-sources.sources in
    let alike : AreAlike (lookups_of stages source) lists kept = subst (λ (names : List (List ℕ)). AreAlike names lists kept) (c.deref.ensures.value ∙ c.in_ok-names.ensures) c.in_ok-sources.ensures in
    let same = c.what_is_not_looked_into_does_not_matter.ensures stages source lists kept (rows_referred c.args.rows.now) (λ name looked. alike name (sym (looked_among source name stages) ∙ looked)) in
    IfOk-weaker c.rows_through.result _ _ (λ left is. is ∙ same) c.rows_through.ensures
