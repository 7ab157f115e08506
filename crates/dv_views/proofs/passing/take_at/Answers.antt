use Rattle.std.proofs.Common.{◌≡◌, ◌<◌, ℕ, Some, ap, subst, sym, ◌∙◌}
use Rattle.indexmap.proofs.CallerLemmas.{index_map_len-with_value_at}
use Rattle.dv_views.specs.Inner.Body.{Body}
use Rattle.dv_views.specs.Inner.Keeping.{kept_seen}
use Rattle.dv_views.specs.Views.{live}
use Rattle.std.specs.Prelude.{IfErr, IfOk}
use Rattle.dv_views.specs.Placed.{lookups_of}
use Rattle.dv_views.proofs.Marked.{alone_at, read_written, settled_at, stale_at}
use Rattle.dv_views.proofs.passing.take_at.Goals as goal

pub returns-then-not-is_reached : goal.returns-then-not-is_reached
returns-then-not-is_reached c = alone_at c.args.namespace.now c.args.all.now c.args.place c.args.views.now.entries c.requires.apart c.index_mut.result.now c.index_mut.ensures.value c.leave.new.self (sym c.if-not-is_reached.true ∙ c.is_reached.ensures c.index_mut.result.now c.index_mut.ensures.value) c.leave.ensures

pub returns-in_default : goal.returns-in_default
returns-in_default c = stale_at c.args.namespace.now c.args.all.now c.args.place c.args.views.now.entries c.requires.apart c.index_mut-2.result.now c.index_mut-2.ensures.value c.take_out.new.self (sym c.if-not-is_reached.false ∙ c.is_reached.ensures c.index_mut-2.result.now c.index_mut-2.ensures.value) c.take_out.ensures.left

pub index-view-requires : goal.index-view-requires
index-view-requires c = subst (λ (n : ℕ). c.args.place < n) (sym (index_map_len-with_value_at c.args.views.now c.args.place c.take_out.new.self)) c.requires.place

pub index_mut-requires-3 : goal.index_mut-requires-3
index_mut-requires-3 c = subst (λ (n : ℕ). c.args.place < n) (sym (index_map_len-with_value_at c.args.views.now c.args.place c.take_out.new.self)) c.requires.place

pub settle-requires : goal.settle-requires
settle-requires c = c.turned-turned.ensures.sound

pub returns : goal.returns
returns c =
    let a = c.take_out.new.self in
    let view_is : c.index-view.result.now ≡ a =
    read_written c.args.place c.args.views.now.entries a c.index_mut-2.result.now c.index-view.result.now c.index_mut-2.ensures.value c.index-view.ensures in
    let back : c.index_mut-3.result.now ≡ a =
    read_written c.args.place c.args.views.now.entries a c.index_mut-2.result.now c.index_mut-3.result.now c.index_mut-2.ensures.value c.index_mut-3.ensures.value in
    settled_at c.args.namespace.now c.args.all.now c.args.place c.args.views.now.entries c.requires.apart c.index_mut-2.result.now c.index_mut-2.ensures.value c.turned-turned.result (λ r. r.0) (λ r. r.1.items) a c.settle.new.self c.in-Some.live
    c.source.result.now c.lookups.result.now (sym c.if-not-is_reached.false ∙ c.is_reached.ensures c.index_mut-2.result.now c.index_mut-2.ensures.value) c.take_out.ensures.left
    (c.source.ensures ∙ ap (λ (b : Body). b.source) view_is) (c.lookups.ensures ∙ ap (λ (b : Body). lookups_of b.stages b.source) view_is) c.in-Some.ensures.kept c.turned-turned.ensures.turns c.turned-turned.ensures.live
    (subst (λ (x : Body). IfOk c.turned-turned.result (λ r. c.settle.new.self ≡ record x { mark = live (kept_seen r.0); told = Some r.1.items })) back c.settle.ensures.live)
    (subst (λ (x : Body). IfErr c.turned-turned.result (λ _. c.settle.new.self ≡ x)) back c.settle.ensures.left)
