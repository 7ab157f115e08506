-- What a view keeps when it is created or recomputed, over older views and documents.
use Rattle.std.proofs.Common.{◌≡◌, ◌+◌, ◌<◌, ℕ, zero, suc, List, [], ◌∷◌, ◌++◌, map, length, take, drop, slice_get, Option, Some, None, refl, ap, sym, subst, ◌∙◌, append_assoc, length-append, arith}
use Rattle.std.proofs.lemmas.List.{length-map, map_push}
use Rattle.std.specs.Prelude.{Result, Ok, Err, IfOk}
use Rattle.std.specs.List.{AllByRecursion}
use Rattle.std.specs.List.Sorted.{IsStrictlySortedBy}
use Rattle.std.specs.Map.{keys_of}
use Rattle.std.specs.Prelude.{pos}
use Rattle.std.specs.declared.cmp.Ordering.TheVariants.{Less}
use Rattle.dv_value.specs.Tree.{int64}
use Rattle.dv_order.specs.Key.{key_order}
use Rattle.dv_order.specs.OwnKeys.{IsOwn}
use Rattle.dv_order.specs.Inner.TotalOrder.{then_Equal}
use Rattle.dv_coll.specs.Collection.{IsAscending, id_key}
use Rattle.dv_change.specs.declared.input.Input.TheVariants.{Named}
use Rattle.dv_change.specs.declared.taking.Taken as taking
use Rattle.dv_change.specs.declared.told_rows.ToldRows.{ToldRows}
use Rattle.dv_change.specs.Changes.{Positioned}
use Rattle.dv_change.specs.Inner.Changes.{IsPositioned}
use Rattle.dv_change.specs.Positions.{IsExact, pos_order}
use Rattle.dv_pipe.specs.Sources.{Row}
use Rattle.dv_pipe.specs.Stages.{Lists}
use Rattle.dv_pipe.specs.declared.stage.Stage.{Stage}
use Rattle.dv_views.specs.declared.stage_operator.StageOperator.{StageOperator}
use Rattle.dv_views.specs.Inner.Ground.{IsBuilt, IsLive, IsLiveView, IsPlacedUnder, outs_below, outs_of_mark, outs_of_view}
use Rattle.dv_views.specs.Inner.Holding.{HasMade}
use Rattle.dv_views.specs.Inner.Keeping.{IsSoundLive, kept_seen}
use Rattle.dv_views.specs.Flow.{arriving}
use Rattle.dv_views.specs.Inner.Filled.{firsts_of, puts_of}
use Rattle.dv_views.specs.Inner.Operating.{empty_lists}
use Rattle.dv_views.specs.Inner.Turned.{Turns, come_along, coming}
use Rattle.dv_views.specs.Placed.{ListPlaces, lookups_of, own_position, positioned}
use Rattle.dv_views.specs.Views.{Kept, Inputs, ViewMark, View, live, inputs_from}
use Rattle.dv_views.specs.Inner.Views.{AreInOrder, Views, view_under}
use Rattle.dv_views.proofs.Coming.{each_there, list_comes, list_takes}
use Rattle.dv_views.proofs.Filling.{firsts_told, puts_lead}
use Rattle.dv_views.proofs.Marked.{take_count, take_last}

-- ---- documents in order are at exact positions, which are in order

below-first : (d : Row) (ds : List Row) → AllByRecursion (λ k. key_order (id_key d) k ≡ Less) (map id_key ds) → AllByRecursion (λ p. pos_order (own_position d) p ≡ Less) (keys_of (positioned ds))
below-first d [] all = tt
below-first d (e ∷ ds) all = (then_Equal (key_order (id_key d) (id_key e)) ∙ all.0, below-first d ds all.1)

ascending-places : (ds : List Row) → IsAscending ds → IsStrictlySortedBy pos_order (keys_of (positioned ds))
unfolding IsStrictlySortedBy
ascending-places [] ascending = tt
ascending-places (d ∷ ds) ascending = (below-first d ds ascending.0, ascending-places ds ascending.1)

own-key : (d : Row) → IsOwn (id_key d)
own-key [] = record { of = Some (int64 (pos 0)); is = refl }
own-key (f ∷ fs) = record { of = Some f.1; is = refl }

exact-places : (ds : List Row) → AllByRecursion IsExact (keys_of (positioned ds))
exact-places [] = tt
exact-places (d ∷ ds) = ((own-key d, tt), exact-places ds)

pub places_are_positioned : (ds : List Row) → IsAscending ds → IsPositioned (positioned ds)
places_are_positioned ds ascending = record { ascending = ascending-places ds ascending; exact = exact-places ds }

-- ---- the rows under a name

pub live_placed : (mark : ViewMark) (rows : ToldRows StageOperator) → mark ≡ live (kept_seen rows) → IsSoundLive rows → IsLive mark × IsPositioned (outs_of_mark mark)
live_placed mark rows is sound = subst (λ (m : ViewMark). IsLive m × IsPositioned (outs_of_mark m)) (sym is) (tt, sound.positioned)

-- what holds in any case also holds if the result is `Ok`
pub whatever : {T E : Type 0} {P : Type 0} (r : Result T E) → P → IfOk r (λ _. P)
whatever (Ok x) holds = holds
whatever (Err e) holds = tt

-- ---- the lists that are read by `$lookup`

-- a list takes in its rows, none of which was taken in before
pub list_filled : (i : ℕ) (front back : List Positioned) (list : Positioned) (firsts : List taking.Taken) (before after : Kept) (first told : List taking.Taken) → i ≡ length front → IsPositioned list → firsts ≡ firsts_of list → Turns (coming (Named i) (Some firsts)) before first after told
    → (stages : List Stage) → HasMade stages before (record { left = []; named = front ++ [] ∷ back }) → HasMade stages after (record { left = []; named = front ++ list ∷ back })
list_filled i front back list firsts before after first told e are is turns stages made =
    let there : i < length (front ++ [] ∷ back) = let n : length (front ++ [] ∷ back) ≡ length front + suc (length back) = length-append front ([] ∷ back) in omega (arith, n, e) in
    let come : coming (Named i) (Some firsts) ≡ come_along (arriving (Named i) (Some (puts_of list))) (record { left = []; named = front ++ [] ∷ back }) =
    ap (λ (ts : List taking.Taken). coming (Named i) (Some ts)) (is ∙ firsts_told list are) ∙ list_comes i front back e [] (puts_of list) [] in
    let turned = turns stages (record { left = []; named = front ++ [] ∷ back }) (arriving (Named i) (Some (puts_of list))) made (each_there (front ++ [] ∷ back) (Named i) (puts_of list) there) come in
    subst (λ (t : Inputs). HasMade stages after t) (list_takes i front back e [] (puts_of list) [] ∙ ap (λ (rows : Positioned). record { left = []; named = front ++ rows ∷ back }) (puts_lead list are)) turned.made

-- the names that begin at a place
pub dropped : (names : List (List ℕ)) (i : ℕ) (name : List ℕ) → slice_get names i ≡ Some name → drop i names ≡ name ∷ drop (i + 1) names
dropped names i name there = at names i there ∙ ap (λ n. name ∷ drop n names) (let e : suc i ≡ i + 1 = omega arith in e)
  where
    at : (names : List (List ℕ)) (i : ℕ) → slice_get names i ≡ Some name → drop i names ≡ name ∷ drop (suc i) names
    at [] i there = absurd cc
    at (n ∷ ns) zero there = let same : n ≡ name = cc in ap (λ (m : List ℕ). m ∷ ns) same
    at (n ∷ ns) (suc i) there = at ns i there

module _ (places : ListPlaces) (names : List (List ℕ)) where
  -- the lists of the first names are filled
  abbrev pub first_lists : ℕ → List Positioned
  first_lists i = map places (take i names) ++ empty_lists (length (drop i names))

  pub next_filled : (i : ℕ) (name : List ℕ) → slice_get names i ≡ Some name → i < length names → (before after : Kept)
      → ((stages : List Stage) (front back : List Positioned) (list : Positioned) → i ≡ length front → IsPositioned list → firsts_of (places name) ≡ firsts_of list → HasMade stages before (record { left = []; named = front ++ [] ∷ back })
      → HasMade stages after (record { left = []; named = front ++ list ∷ back }))
      → IsPositioned (places name) → (stages : List Stage) → HasMade stages before (record { left = []; named = first_lists i }) → HasMade stages after (record { left = []; named = first_lists (i + 1) })
  next_filled i name there within before after fills are stages made =
      let front = map places (take i names) in
      let back = empty_lists (length (drop (i + 1) names)) in
      let count : i ≡ length front = sym (length-map (take i names) places ∙ take_count names i within) in
      let was : first_lists i ≡ front ++ [] ∷ back = ap (λ (ns : List (List ℕ)). front ++ empty_lists (length ns)) (dropped names i name there) in
      let now : front ++ places name ∷ back ≡ first_lists (i + 1) =
      sym (append_assoc front (places name ∷ []) back) ∙ ap (λ (ls : List Positioned). ls ++ back) (sym (ap (map places) (take_last names i name there) ∙ map_push places (take i names) name)) in
      subst (λ (ls : List Positioned). HasMade stages after (record { left = []; named = ls })) now
      (fills stages front back (places name) count are refl (subst (λ (ls : List Positioned). HasMade stages before (record { left = []; named = ls })) was made))

module _ (older : Views) (lists : Lists) where
  pub view_placed : (name : List ℕ) (v : View) → view_under name older ≡ Some v → IsLive v.mark → IsPositioned (outs_of_mark v.mark) → IsPlacedUnder older lists name
  view_placed name v is lives are = subst (λ (o : Option View). IsLiveView o × IsPositioned (outs_of_view o (lists name))) (sym is) (lives, are)

  pub list_placed : (name : List ℕ) → view_under name older ≡ None → AreInOrder (lists name) → IsPlacedUnder older lists name
  list_placed name is ordered = subst (λ (o : Option View). IsLiveView o × IsPositioned (outs_of_view o (lists name))) (sym is) (tt, places_are_positioned (lists name) ordered.0)

  all-live : (names : List (List ℕ)) → AllByRecursion (IsPlacedUnder older lists) names → AllByRecursion (λ name. IsLiveView (view_under name older)) names
  all-live [] all = tt
  all-live (name ∷ names) all = (all.0.0, all-live names all.1)

  pub more_placed : (names : List (List ℕ)) (name : List ℕ) → AllByRecursion (IsPlacedUnder older lists) names → IsPlacedUnder older lists name → AllByRecursion (IsPlacedUnder older lists) (names ++ name ∷ [])
  more_placed [] name all one = (one, tt)
  more_placed (n ∷ names) name all one = (all.0, more_placed names name all.1 one)

  -- stages that have taken in all that is read are what a view keeps
  pub built : (stages : List Stage) (source : List ℕ) (kept : Kept) → AllByRecursion (IsPlacedUnder older lists) (lookups_of stages source) → IsPlacedUnder older lists source → HasMade stages kept (inputs_from stages source (outs_below older lists)) → kept.ticks ≡ 0
      → IsBuilt stages source older lists (live kept)
  built stages source kept placed own made ticks = (made, ticks, (own.0, all-live (lookups_of stages source) placed))
