use Rattle.std.proofs.Common.{rules, ◌≡◌, ◌<◌, ◌∙◌, ◌++◌, [], List, ℕ, Some, append-nil, length, map, slice_get, subst, sym, take}
use Rattle.std.proofs.lemmas.List.{drop_all, take_all}
use Rattle.std.specs.List.{AllByRecursion}
use Rattle.dv_change.specs.Changes.{Positioned}
use Rattle.dv_pipe.specs.Sources.{lists_of}
use Rattle.dv_views.specs.Inner.Filled.{firsts_of}
use Rattle.dv_views.specs.Inner.Ground.{IsPlacedUnder, outs_below}
use Rattle.dv_views.specs.Inner.Holding.{HasMade}
use Rattle.dv_views.specs.Inner.Keeping.{kept_seen}
use Rattle.dv_views.specs.Inner.Made.{IsNoStale}
use Rattle.dv_views.specs.Inner.Older.{views_before}
use Rattle.dv_views.specs.Inner.Operating.{empty_lists}
use Rattle.dv_views.specs.Inner.Views.{AreInOrder, view_under}
use Rattle.dv_views.proofs.Building.{dropped, more_placed, next_filled}
use Rattle.dv_views.proofs.Marked.{take_last, there_at}
use Rattle.dv_views.proofs.making.filled_lists.Goals as goal

pub lists-init : goal.lists-init
lists-init c = record { sound = c.requires.sound; ordered = c.requires.ordered; live = c.requires.live; made = λ stages made. made; placed = tt }

pub firsts_under-requires-clause-ordered : goal.firsts_under-requires-clause-ordered
firsts_under-requires-clause-ordered c =
    let lists = lists_of c.args.ground.now.sources.now in
    let name = c.index-lookups-place.result in
    let within : c.lists.place < length c.args.lookups.now = search rules in
    let there : slice_get c.args.lookups.now c.lists.place ≡ Some name = there_at name c.args.lookups.now c.lists.place within c.index-lookups-place.is in
    let both = subst (λ (ns : List (List ℕ)). AllByRecursion (λ n. AreInOrder (lists n)) ns) (dropped c.args.lookups.now c.lists.place name there) c.lists.invariant.ordered in
    subst (λ (n : List ℕ). AreInOrder (lists n)) (sym c.as_str.ensures) both.0

pub firsts_under-requires-clause-live : goal.firsts_under-requires-clause-live
firsts_under-requires-clause-live c =
    let older = views_before c.args.ground.now.place c.args.ground.now.views.now.entries in
    let name = c.index-lookups-place.result in
    let within : c.lists.place < length c.args.lookups.now = search rules in
    let there : slice_get c.args.lookups.now c.lists.place ≡ Some name = there_at name c.args.lookups.now c.lists.place within c.index-lookups-place.is in
    let both = subst (λ (ns : List (List ℕ)). AllByRecursion (λ n. IsNoStale (view_under n older)) ns) (dropped c.args.lookups.now c.lists.place name there) c.lists.invariant.live in
    subst (λ (n : List ℕ). IsNoStale (view_under n older)) (sym c.as_str.ensures) both.0

pub lists-preserved : goal.lists-preserved
lists-preserved c =
    let lists = lists_of c.args.ground.now.sources.now in
    let older = views_before c.args.ground.now.place c.args.ground.now.views.now.entries in
    let places = outs_below older lists in
    let names = c.args.lookups.now in
    let name = c.index-lookups-place.result in
    let within : c.lists.place < length names = search rules in
    let there : slice_get names c.lists.place ≡ Some name = there_at name names c.lists.place within c.index-lookups-place.is in
    let rest = dropped names c.lists.place name there in
    let placed : IsPlacedUnder older lists name = subst (λ (n : List ℕ). IsPlacedUnder older lists n) c.as_str.ensures c.in_ok-firsts.ensures.placed in
    let firsts = c.in_ok-firsts.ensures.firsts ∙ (λ i. firsts_of (places (c.as_str.ensures i))) in
    record {
      sound = c.in_ok-live.ensures.sound;
      ordered = (subst (λ (ns : List (List ℕ)). AllByRecursion (λ n. AreInOrder (lists n)) ns) rest c.lists.invariant.ordered).1;
      live = (subst (λ (ns : List (List ℕ)). AllByRecursion (λ n. IsNoStale (view_under n older)) ns) rest c.lists.invariant.live).1;
      made = λ stages made.
          next_filled places names c.lists.place name there within (kept_seen c.lists.live) (kept_seen c.in_ok-live.live) (λ stages front back list e are is made. c.in_ok-live.ensures.made stages front back list e are (firsts ∙ is) made) placed.1 stages (c.lists.invariant.made stages made);
      placed = subst (λ (ns : List (List ℕ)). AllByRecursion (IsPlacedUnder older lists) ns) (sym (take_last names c.lists.place name there)) (more_placed older lists (take c.lists.place names) name c.lists.invariant.placed placed);
    }

pub returns-clause-made : goal.returns-clause-made
returns-clause-made c = λ stages made.
    let lists = lists_of c.args.ground.now.sources.now in
    let older = views_before c.args.ground.now.place c.args.ground.now.views.now.entries in
    let places = outs_below older lists in
    let names = c.args.lookups.now in
    let all = take_all c.lists.place names c.lists-test.false in
    let none = drop_all c.lists.place names c.lists-test.false in
    subst (λ (ls : List Positioned). HasMade stages (kept_seen c.lists.live) (record { left = []; named = ls })) ((λ i. map places (all i) ++ empty_lists (length (none i))) ∙ append-nil (map places names)) (c.lists.invariant.made stages made)

pub returns-clause-placed : goal.returns-clause-placed
returns-clause-placed c =
    let lists = lists_of c.args.ground.now.sources.now in
    let older = views_before c.args.ground.now.place c.args.ground.now.views.now.entries in
    subst (λ (ns : List (List ℕ)). AllByRecursion (IsPlacedUnder older lists) ns) (take_all c.lists.place c.args.lookups.now c.lists-test.false) c.lists.invariant.placed
