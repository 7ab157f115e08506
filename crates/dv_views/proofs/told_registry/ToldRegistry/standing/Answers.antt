use Rattle.std.proofs.Common.{◌≡◌, ◌∙◌, Some, ap, arith, map, subst, sym, take, take_all}
use Rattle.std.specs.List.{AllByRecursion}
use Rattle.std.specs.Option.{option_and_then}
use Rattle.dv_change.specs.Changes.{forget}
use Rattle.dv_coll.specs.Collection.{HasId}
use Rattle.dv_pipe.specs.Stages.{evaluated}
use Rattle.dv_views.specs.Inner.ById.{AreAtIds}
use Rattle.dv_views.specs.Forms.{places_over, rows_over}
use Rattle.dv_views.specs.Inner.Older.{views}
use Rattle.dv_views.specs.Placed.{list_places}
use Rattle.dv_views.specs.Inner.Seen.{view_seen}
use Rattle.dv_views.specs.Inner.Views.{AreRight, Views, kept_rows, view_form, view_under}
use Rattle.dv_views.proofs.Based.{entries_at_ids, right_at}
use Rattle.dv_views.proofs.Before.{place_within, view_before}
use Rattle.dv_views.proofs.ById.{positioned_at_ids}
use Rattle.dv_views.proofs.told_registry.ToldRegistry.standing.Goals as goal

pub base_at-requires-clause-place : goal.base_at-requires-clause-place
base_at-requires-clause-place c = place_within c.args.name.now c.len.result c.in_ok-place.place c.self.inside.views.entries (sym c.in_ok-place.ensures)

pub index-requires : goal.index-requires
index-requires c = place_within c.args.name.now c.len.result c.in_ok-place.place c.self.inside.views.entries (sym c.in_ok-place.ensures)

pub of-requires : goal.of-requires
of-requires c = c.in_ok-live.ensures.sound.positioned

pub returns-clause-rows : goal.returns-clause-rows
returns-clause-rows c =
    let name = c.args.name.now in
    let es = c.self.inside.views.entries in
    let whole : take c.len.result es ≡ es = take_all c.len.result es (omega (arith, c.len.ensures.len)) in
    let under : view_under name (views es) ≡ Some (view_seen name c.index.result.now) =
    ap (λ fs. view_under name (views fs)) (sym whole) ∙ view_before name c.len.result c.in_ok-place.place es c.index.result.now (sym c.in_ok-place.ensures) c.index.ensures in
    ap (λ (vs : Views). option_and_then (λ v. kept_rows v.mark) (view_under name vs)) (sym c.self.view_is)
    ∙ ap (option_and_then (λ v. kept_rows v.mark)) under
    ∙ ap kept_rows c.in_ok-live.ensures.kept
    ∙ ap (λ standing. Some (forget standing.1)) (sym c.of.ensures)

pub returns-clause-ids : goal.returns-clause-ids
returns-clause-ids c = λ lists right own.
    let es = c.self.inside.views.entries in
    let place = c.in_ok-place.place in
    let b = c.index.result.now in
    let base = c.in_ok-base.base.now in
    let places = places_over (map view_form (views (take place es))) (list_places lists) in
    let whole = subst (λ (vs : Views). AreRight lists vs) (sym c.self.view_is) right in
    let identified : AllByRecursion HasId (lists base) = subst (λ standing. AllByRecursion HasId (lists standing.0)) c.of.ensures own in
    let made = c.in_ok-base.ensures (list_places lists) (positioned_at_ids (lists base) identified) b c.index.ensures in
    let shown = evaluated b.stages b.source (rows_over (map view_form (views (take place es))) lists) in
    let are : AreAtIds c.in_ok-live.live.now.rows.entries = entries_at_ids b c.in_ok-live.live.now places shown (right_at place es b (list_places lists) lists whole c.index.ensures) c.in_ok-live.ensures.kept made in
    subst (λ standing. AreAtIds standing.1) (sym c.of.ensures) are
