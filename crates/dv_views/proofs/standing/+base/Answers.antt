use Rattle.std.proofs.Common.{◌≡◌, ◌∙◌, None, Some, ap, arith, subst, sym, take, true, false}
use Rattle.dv_views.specs.Inner.Based.{IsBasedOn}
use Rattle.dv_views.specs.Inner.ById.{at_ids_through}
use Rattle.dv_views.specs.Inner.Older.{place_of_name}
use Rattle.dv_views.proofs.Based.{based_anyhow, based_below, based_on_source, place_early, some_then}
use Rattle.dv_views.proofs.Before.{place_within}
use Rattle.dv_views.proofs.standing.+base.Goals as goal

pub returns-then-are_at_ids : goal.returns-then-are_at_ids
returns-then-are_at_ids t c =
    let is : at_ids_through false c.index-view.result.now.stages ≡ true = ap (at_ids_through false) (sym (c.stages-stages.ensures ∙ c.pipeline.ensures)) ∙ sym c.are_at_ids.ensures ∙ c.if-are_at_ids.true in
    based_anyhow c.args.views.now.entries c.args.place c.index-view.result.now c.index-view.ensures c.source.result.now is

pub base_at-requires : goal.base_at-requires
base_at-requires t c =
    let es = c.args.views.now.entries in
    let named : place_of_name c.source-2.result.now (take c.args.place es) ≡ Some c.in-Some.found = sym c.in-Some.ensures in
    (omega (arith, c.decreases, place_early c.source-2.result.now c.args.place c.in-Some.found es named), (place_within c.source-2.result.now c.args.place c.in-Some.found es named, c.requires.apart))

pub returns-in-Some : goal.returns-in-Some
returns-in-Some t c =
    let es = c.args.views.now.entries in
    let v = c.index-view.result.now in
    let is : at_ids_through true v.stages ≡ true = ap (at_ids_through true) (sym (c.stages-stages.ensures ∙ c.pipeline.ensures)) ∙ sym c.are_at_ids-2.ensures ∙ c.if-not-are_at_ids.false in
    let named : place_of_name v.source (take c.args.place es) ≡ Some c.in-Some.found = ap (λ name. place_of_name name (take c.args.place es)) (sym c.source-2.ensures) ∙ sym c.in-Some.ensures in
    some_then c.base_at.result c.base_at.ensures (λ base rest. based_below es c.args.place v c.index-view.ensures base.now c.in-Some.found c.requires.apart is named rest)

pub returns-in-None : goal.returns-in-None
returns-in-None t c =
    let es = c.args.views.now.entries in
    let v = c.index-view.result.now in
    let is : at_ids_through true v.stages ≡ true = ap (at_ids_through true) (sym (c.stages-stages.ensures ∙ c.pipeline.ensures)) ∙ sym c.are_at_ids-2.ensures ∙ c.if-not-are_at_ids.false in
    let named : place_of_name v.source (take c.args.place es) ≡ None = ap (λ name. place_of_name name (take c.args.place es)) (sym c.source-2.ensures) ∙ sym c.in-None.ensures in
    subst (λ base. IsBasedOn base c.args.place es) (sym c.source-in-None.ensures) (based_on_source es c.args.place v c.index-view.ensures is named)
