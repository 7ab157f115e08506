use Rattle.std.proofs.Common.{◌≡◌, ◌∙◌, ap, sym, ◌∷◌, ◌++◌, drop, take}
use Rattle.std.proofs.lemmas.List.{take-append-drop}
use Rattle.std.proofs.lemmas.Result.{IfOk-weaker}
use Rattle.dv_gather.specs.Lookups.{looked_up}
use Rattle.dv_pipe.specs.Sources.{lists_of, rows_referred}
use Rattle.dv_pipe.specs.Stages.{Lists, beside, through}
use Rattle.dv_pipe.specs.declared.stage.Stage.TheVariants as stage
use Rattle.dv_catalog.specs.Inner.CatalogParts.{rows_kept}
use Rattle.dv_catalog.specs.Inner.SearchedView.{searched}
use Rattle.dv_catalog.proofs.Fronts.{by_lookup}
use Rattle.dv_catalog.proofs.behind.+behind.Goals as goal

pub returns : goal.returns
returns t c =
    let stages = c.args.stages.now in
    let source = c.args.source.now in
    let rows = rows_referred c.args.rows.now in
    let kept : Lists = λ name. rows_kept name c.args.collections.now c.args.registry.now in
    let nothing = lists_of c.new.result in
    let here = c.in-Some-Lookup-default in
    let later = here.later.now in
    let before = take c.first_lookup.result stages in
    let parted : stages ≡ before ++ stage.Lookup here.lookup ∷ later =
    sym (take-append-drop c.first_lookup.result stages) ∙ ap (λ back. before ++ back) (sym c.split_at.ensures.back ∙ here.ensures.cases.0 ∙ ap (λ s. s ∷ later) here.field-0-0-is) in
    let entered = ap rows_referred c.deref-4.ensures.value ∙ c.in_ok-lent.ensures ∙ c.deref-2.ensures.value ∙ c.in_ok-entering.ensures ∙ ap (λ ss. through ss source nothing rows) c.split_at.ensures.front in
    let foreign = c.searched_in.ensures ∙ ap kept (c.deref-3.ensures ∙ c.in_ok-name.ensures ∙ ap (beside source) c.as_str.ensures) in
    let joined = ap rows_referred c.deref-6.ensures.value ∙ c.in_ok-lent-2.ensures ∙ c.deref-5.ensures.value ∙ c.in_ok-joined.ensures ∙ ap (λ rs. looked_up here.lookup rs (searched c.searched_in.result)) entered ∙ ap (looked_up here.lookup (through before source nothing rows)) foreign in
    IfOk-weaker c.rows_behind.result _ _
    (λ left is. is ∙ ap (through later source kept) joined ∙ by_lookup source kept nothing before later here.lookup rows c.first_lookup.ensures.nowhere ∙ ap (λ ss. through ss source kept rows) (sym parted))
    c.rows_behind.ensures
