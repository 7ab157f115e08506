use Rattle.std.proofs.Common.{◌≡◌, ℕ, List, [], ap, length, map, subst, sym, ◌∙◌}
use Rattle.std.specs.List.{AllByRecursion}
use Rattle.dv_change.specs.Changes.{Positioned}
use Rattle.dv_change.specs.Inner.Changes.{IsPositioned}
use Rattle.dv_change.specs.Inner.ToldRows.{HaveMade}
use Rattle.dv_pipe.specs.Sources.{lists_of}
use Rattle.dv_views.specs.Inner.Filled.{puts_of}
use Rattle.dv_views.specs.Inner.Ground.{IsPlacedUnder, outs_below}
use Rattle.dv_views.specs.Inner.Holding.{HasMade, lists_of_all}
use Rattle.dv_views.specs.Inner.Keeping.{kept_seen}
use Rattle.dv_views.specs.Inner.Made.{IsNoStale}
use Rattle.dv_views.specs.Inner.Older.{views_before}
use Rattle.dv_views.specs.declared.stage_operator.StageOperator.{StageOperator}
use Rattle.dv_views.specs.Inner.Operating.{HoldsStage, IsSoundStage, empty_lists, stage_makes}
use Rattle.dv_views.specs.Placed.{forms, lookups_of}
use Rattle.dv_views.specs.Views.{inputs_from}
use Rattle.dv_views.specs.Inner.Views.{AreInOrder, view_under}
use Rattle.dv_views.proofs.Building.{built}
use Rattle.dv_views.proofs.Filling.{firsts_told, puts_exact, puts_lead}
use Rattle.dv_views.proofs.Rolling.{lookups_count}
use Rattle.dv_views.proofs.making.made.Goals as goal

pub filled_lists-requires-clause-ordered : goal.filled_lists-requires-clause-ordered
filled_lists-requires-clause-ordered c =
    let lists = lists_of c.args.ground.now.sources.now in
    subst (λ (names : List (List ℕ)). AllByRecursion (λ name. AreInOrder (lists name)) names) (sym c.requires.lookups) c.requires.read.1

pub filled_lists-requires-clause-live : goal.filled_lists-requires-clause-live
filled_lists-requires-clause-live c =
    let older = views_before c.args.ground.now.place c.args.ground.now.views.now.entries in
    subst (λ (names : List (List ℕ)). AllByRecursion (λ name. IsNoStale (view_under name older)) names) (sym c.requires.lookups) c.requires.live.1

pub firsts_under-requires-clause-ordered : goal.firsts_under-requires-clause-ordered
firsts_under-requires-clause-ordered c = c.requires.read.0

pub firsts_under-requires-clause-live : goal.firsts_under-requires-clause-live
firsts_under-requires-clause-live c = c.requires.live.0

pub returns-clause-sound : goal.returns-clause-sound
returns-clause-sound c = record {
  operators = subst (λ (os : List StageOperator). AllByRecursion IsSoundStage os) (sym c.counted_anew.ensures.operators) c.in_ok-whole.ensures.sound.operators;
  positioned = subst (λ (rows : Positioned). IsPositioned rows) (sym c.counted_anew.ensures.rows) c.in_ok-whole.ensures.sound.positioned;
}

pub returns-clause-built : goal.returns-clause-built
returns-clause-built c =
    let stages = c.args.pipeline.now in
    let source = c.args.source.now in
    let lists = lists_of c.args.ground.now.sources.now in
    let older = views_before c.args.ground.now.place c.args.ground.now.views.now.entries in
    let places = outs_below older lists in
    let placed = subst (λ (names : List (List ℕ)). AllByRecursion (IsPlacedUnder older lists) names) c.requires.lookups c.in_ok-some.ensures.placed in
    let own : IsPlacedUnder older lists source = c.in_ok-firsts.ensures.placed in
    let count : lists_of_all stages ≡ length c.args.lookups.now = sym (ap length c.requires.lookups ∙ lookups_count stages source) in
    let first : HasMade stages (kept_seen c.in_ok-fresh.fresh) (record { left = []; named = empty_lists (length c.args.lookups.now) }) =
    subst (λ (n : ℕ). HasMade stages (kept_seen c.in_ok-fresh.fresh) (record { left = []; named = empty_lists n })) count c.in_ok-fresh.ensures.made in
    let some : HasMade stages (kept_seen c.in_ok-some.some) (record { left = []; named = map places (lookups_of stages source) }) =
    subst (λ (names : List (List ℕ)). HasMade stages (kept_seen c.in_ok-some.some) (record { left = []; named = map places names })) c.requires.lookups (c.in_ok-some.ensures.made stages first) in
    let whole : HasMade stages (kept_seen c.in_ok-whole.whole) (inputs_from stages source places) =
    subst (λ (rows : Positioned). HasMade stages (kept_seen c.in_ok-whole.whole) (record { left = rows; named = map places (lookups_of stages source) })) (puts_lead (places source) own.1)
    (c.in_ok-whole.ensures.made stages (map places (lookups_of stages source)) (puts_of (places source)) some (puts_exact (places source) own.1) (c.in_ok-firsts.ensures.firsts ∙ firsts_told (places source) own.1)) in
    let fs = forms stages (map places (lookups_of stages source)) in
    let anew : HasMade stages (kept_seen c.counted_anew.result) (inputs_from stages source places) = record {
      made =
          subst (λ (rows : Positioned). HaveMade stage_makes HoldsStage c.counted_anew.result.operators rows fs (places source)) (sym c.counted_anew.ensures.rows)
          (subst (λ (os : List StageOperator). HaveMade stage_makes HoldsStage os c.in_ok-whole.whole.rows.entries fs (places source)) (sym c.counted_anew.ensures.operators) whole.made);
      count = whole.count;
    } in
    built older lists stages source (kept_seen c.counted_anew.result) placed own anew c.counted_anew.ensures.ticks
