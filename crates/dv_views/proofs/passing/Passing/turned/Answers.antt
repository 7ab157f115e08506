use Rattle.std.proofs.Common.{rules, List, Option, subst, []}
use Rattle.std.specs.List.{AllByRecursion}
use Rattle.dv_change.specs.declared.input.Input.TheVariants.{Left}
use Rattle.dv_change.specs.declared.taking.Taken as taking
use Rattle.dv_views.specs.Inner.Ground.{IsLiveView}
use Rattle.dv_views.specs.Inner.Keeping.{kept_seen}
use Rattle.dv_views.specs.Inner.Older.{told_found, views_before}
use Rattle.dv_views.specs.Inner.Turned.{Turns, coming, coming_to_lists}
use Rattle.dv_views.specs.Inner.Views.{view_under}
use Rattle.dv_views.proofs.Rolling.{turns_then}
use Rattle.dv_views.proofs.passing.Passing.turned.Goals as goal

pub returns-clause-turns : goal.returns-clause-turns
returns-clause-turns c =
    let source = c.args.source.now in
    let known = told_found c.args.self.now.namespace.now c.args.self.now.all.now c.args.self.now.place c.args.self.now.views.now.entries in
    let before = kept_seen c.args.live in
    let some = kept_seen c.in_ok-some.some in
    let told = c.taken_in_told.new.told.items in
    turns_then (coming Left (known source)) (coming_to_lists 0 c.args.lookups.now known) before some (kept_seen c.in_ok-rows.rows) [] told c.taken_by_lists.new.told.items
    (subst (λ (ts : List taking.Taken). Turns (coming Left (known source)) before ts some told) c.new-told.ensures.items
    (subst (λ (o : Option (List taking.Taken)). Turns (coming Left o) before c.new-told.result.items some told) c.told-come.ensures c.in_ok-some.ensures.turns))
    c.in_ok-rows.ensures.turns

pub returns-clause-live : goal.returns-clause-live
returns-clause-live c =
    let older = views_before c.args.self.now.place c.args.self.now.views.now.entries in
    let own : IsLiveView (view_under c.args.source.now older) = search rules in
    let others : AllByRecursion (λ name. IsLiveView (view_under name older)) c.args.lookups.now = search rules in
    (own, others)
