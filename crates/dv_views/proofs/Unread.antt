-- Shares of changes: none if nothing is read, one for each view, and those of one more change.
use Rattle.std.proofs.Common.{◌≡◌, ◌||◌, ◌+◌, ℕ, suc, Bool, true, false, List, [], ◌∷◌, ◌++◌, length, map, fold, Option, Some, None, is_some, refl, ap, sym, ◌∙◌, arith}
use Rattle.std.specs.Bool.{if◌then◌else◌}
use Rattle.std.specs.List.{AllByRecursion, list_any}
use Rattle.std.specs.Str.{bytes_eq}
use Rattle.std.proofs.lemmas.Bool.{or_parts}
use Rattle.dv_change.specs.declared.change.Change.{Change}
use Rattle.dv_change.specs.declared.input.Input.TheVariants.{Left, Named}
use Rattle.dv_pipe.specs.Stages.{Lists, is_read}
use Rattle.dv_pipe.specs.declared.stage.Stage.{Stage}
use Rattle.dv_views.specs.Changed.{with_changed}
use Rattle.dv_views.specs.Flow.{Flow, Share, Told, all_together, arrivals, arriving, arriving_at_lists, flow_through, handed_by, is_reached, nothing, shares, shares_of, told_at, flow_told, flow_with_told, work_by}
use Rattle.dv_views.specs.Forms.{ViewForm, is_name_among, is_read_by, names_read}
use Rattle.dv_views.specs.Placed.{lookups_of, list_places}
use Rattle.dv_views.specs.Views.{inputs_from}
use Rattle.dv_views.proofs.Right.{read_among}

-- ---- no change enters a view if the names that it reads have none

abbrev pub AreUntold : Told → List (List ℕ) → Type 0
AreUntold told names = AllByRecursion (λ name. told name ≡ None) names

pub none_told : (told : Told) (names : List (List ℕ)) → list_any (λ name. is_some (told name)) names ≡ false → AreUntold told names
none_told told [] away = tt
none_told told (name ∷ names) away = let both = or_parts (is_some (told name)) (list_any (λ name. is_some (told name)) names) away in (untold (told name) both.0, none_told told names both.1)
  where
    untold : (o : Option (List Change)) → is_some o ≡ false → o ≡ None
    untold None is = refl
    untold (Some changes) is = absurd cc

none-reached : (told : Told) (names : List (List ℕ)) → AreUntold told names → list_any (λ name. is_some (told name)) names ≡ false
none-reached told [] are = refl
none-reached told (name ∷ names) are = λ i. is_some (are.0 i) || none-reached told names are.1 i

none-at-lists : (told : Told) (i : ℕ) (names : List (List ℕ)) → AreUntold told names → arriving_at_lists i names told ≡ []
none-at-lists told i [] are = refl
none-at-lists told i (name ∷ names) are = λ j. arriving (Named i) (are.0 j) ++ none-at-lists told (suc i) names are.1 j

pub no_arrivals : (stages : List Stage) (source : List ℕ) (told : Told) → is_reached stages source told ≡ false → arrivals stages source told ≡ []
no_arrivals stages source told away = let are = none_told told (names_read stages source) away in λ i. arriving Left (are.0 i) ++ none-at-lists told 0 (lookups_of stages source) are.1 i

pub not_told_by : (stages : List Stage) (source : List ℕ) (flow : Flow) → is_reached stages source flow.told ≡ false → flow_told stages source flow ≡ None
not_told_by stages source flow away = ap (λ (b : Bool). if b then Some (handed_by stages (arrivals stages source flow.told) (inputs_from stages source flow.places)) else None) away

-- ---- what no view reads

-- only the namespace has changes
abbrev pub IsToldAlone : List ℕ → Told → Type 0
IsToldAlone namespace told = (name : List ℕ) → bytes_eq namespace name ≡ false → told name ≡ None

told-alone : (namespace : List ℕ) (changes : List Change) → IsToldAlone namespace (told_at namespace changes)
told-alone namespace changes name off = ap (λ (b : Bool). if b then Some changes else None) off

untold-names : (namespace : List ℕ) (told : Told) (names : List (List ℕ)) → IsToldAlone namespace told → is_name_among namespace names ≡ false → AreUntold told names
untold-names namespace told [] alone away = tt
untold-names namespace told (name ∷ names) alone away = let both = or_parts (bytes_eq namespace name) (is_name_among namespace names) away in (alone name both.0, untold-names namespace told names alone both.1)

pub not_reached : (namespace : List ℕ) (stages : List Stage) (source : List ℕ) (told : Told) → IsToldAlone namespace told → is_read stages source namespace ≡ false → is_reached stages source told ≡ false
not_reached namespace stages source told alone away = none-reached told (names_read stages source) (untold-names namespace told (names_read stages source) alone (sym (read_among stages source namespace) ∙ away))

still-alone : (namespace name : List ℕ) (changes : Option (List Change)) (told : Told) → changes ≡ None → IsToldAlone namespace told → IsToldAlone namespace (flow_with_told name changes told)
still-alone namespace name changes told none alone other off = by (bytes_eq other name)
  where
    by : (b : Bool) → (if b then changes else told other) ≡ None
    by true = none
    by false = alone other off

no-shares-of : (namespace : List ℕ) (flow : Flow) (views : List ViewForm) → IsToldAlone namespace flow.told → is_read_by views namespace ≡ false → shares_of flow views ≡ map (λ v. nothing) views
no-shares-of namespace flow [] alone away = refl
no-shares-of namespace flow (v ∷ views) alone away =
    let both = or_parts (is_read v.stages v.source namespace) (is_read_by views namespace) away in
    let off = not_reached namespace v.stages v.source flow.told alone both.0 in
    let none = no_arrivals v.stages v.source flow.told off in
    let rest = no-shares-of namespace (flow_through flow v) views (still-alone namespace v.name (flow_told v.stages v.source flow) flow.told (not_told_by v.stages v.source flow off) alone) both.1 in
    λ i. record { reached = off i; work = work_by v.stages (none i) (inputs_from v.stages v.source flow.places) } ∷ rest i

nothing-together : (views : List ViewForm) → all_together (map (λ v. nothing) views) (map (λ v. nothing) views) ≡ map (λ v. nothing) views
nothing-together [] = refl
nothing-together (v ∷ views) = ap (λ (all : List Share). nothing ∷ all) (nothing-together views)

pub no_shares : (namespace : List ℕ) (changes : List Change) (lists : Lists) (views : List ViewForm) → is_read_by views namespace ≡ false → shares namespace changes lists views ≡ map (λ v. nothing) views
unfolding shares
no_shares namespace [] lists views away = refl
no_shares namespace (c ∷ cs) lists views away =
    let first = no-shares-of namespace (record { places = list_places lists; told = told_at namespace (c ∷ []) }) views (told-alone namespace (c ∷ [])) away in
    let rest = no_shares namespace cs (with_changed namespace (c ∷ []) lists) views away in
    (λ i. all_together (first i) (rest i)) ∙ nothing-together views

-- ---- a share for each view

together-length : (some others : List Share) → length some ≡ length others → length (all_together some others) ≡ length some
together-length [] others same = refl
together-length (a ∷ some) [] same = absurd cc
together-length (a ∷ some) (b ∷ others) same = ap suc (together-length some others (let less : length some ≡ length others = cc in less))

pub shares_of_length : (flow : Flow) (views : List ViewForm) → length (shares_of flow views) ≡ length views
shares_of_length flow [] = refl
shares_of_length flow (v ∷ views) = ap suc (shares_of_length (flow_through flow v) views)

nothing-length : (views : List ViewForm) → length (map (λ v. nothing) views) ≡ length views
nothing-length [] = refl
nothing-length (v ∷ views) = ap suc (nothing-length views)

pub shares_length : (namespace : List ℕ) (changes : List Change) (lists : Lists) (views : List ViewForm) → length (shares namespace changes lists views) ≡ length views
unfolding shares
shares_length namespace [] lists views = nothing-length views
shares_length namespace (c ∷ cs) lists views =
    let flow : Flow = record { places = list_places lists; told = told_at namespace (c ∷ []) } in
    let first = shares_of_length flow views in
    together-length (shares_of flow views) (shares namespace cs (with_changed namespace (c ∷ []) lists) views) (first ∙ sym (shares_length namespace cs (with_changed namespace (c ∷ []) lists) views)) ∙ first

-- ---- one change more

pub together_follows : (some others last : List Share) → all_together some (all_together others last) ≡ all_together (all_together some others) last
together_follows [] others last = refl
together_follows (a ∷ some) [] last = refl
together_follows (a ∷ some) (b ∷ others) [] = refl
together_follows (a ∷ some) (b ∷ others) (c ∷ last) =
    let reached = either a.reached b.reached c.reached in
    let work : a.work + (b.work + c.work) ≡ (a.work + b.work) + c.work = omega arith in
    let rest = together_follows some others last in
    λ i. record { reached = reached i; work = work i } ∷ rest i
  where
    either : (a b c : Bool) → a || (b || c) ≡ (a || b) || c
    either true b c = refl
    either false b c = refl

pub nothing_before : (views : List ViewForm) (all : List Share) → length all ≡ length views → all_together (map (λ v. nothing) views) all ≡ all
nothing_before [] [] same = refl
nothing_before [] (a ∷ all) same = absurd cc
nothing_before (v ∷ views) [] same = absurd cc
nothing_before (v ∷ views) (a ∷ all) same =
    let rest = nothing_before views all (let less : length all ≡ length views = cc in less) in
    let work : 0 + a.work ≡ a.work = omega arith in
    λ i. record { reached = a.reached; work = work i } ∷ rest i

pub nothing_behind : (views : List ViewForm) (all : List Share) → length all ≡ length views → all_together all (map (λ v. nothing) views) ≡ all
nothing_behind [] [] same = refl
nothing_behind [] (a ∷ all) same = absurd cc
nothing_behind (v ∷ views) [] same = absurd cc
nothing_behind (v ∷ views) (a ∷ all) same =
    let rest = nothing_behind views all (let less : length all ≡ length views = cc in less) in
    let reached = neutral a.reached in
    let work : a.work + 0 ≡ a.work = omega arith in
    λ i. record { reached = reached i; work = work i } ∷ rest i
  where
    neutral : (a : Bool) → a || false ≡ a
    neutral true = refl
    neutral false = refl

-- the shares of a list of one change are those of this change
pub one_change : (namespace : List ℕ) (c : Change) (lists : Lists) (views : List ViewForm) → shares namespace (c ∷ []) lists views ≡ shares_of (record { places = list_places lists; told = told_at namespace (c ∷ []) }) views
unfolding shares
one_change namespace c lists views = let flow : Flow = record { places = list_places lists; told = told_at namespace (c ∷ []) } in nothing_behind views (shares_of flow views) (shares_of_length flow views)

-- the lists after changes that are taken one by one
abbrev pub lists_behind : List ℕ → List Change → Lists → Lists
lists_behind namespace changes lists = fold (λ lists c. with_changed namespace (c ∷ []) lists) lists changes

pub shares_more : (namespace : List ℕ) (xs : List Change) (c : Change) (lists : Lists) (views : List ViewForm) → shares namespace (xs ++ c ∷ []) lists views ≡ all_together (shares namespace xs lists views) (shares namespace (c ∷ []) (lists_behind namespace xs lists) views)
unfolding shares
shares_more namespace [] c lists views = sym (nothing_before views (shares namespace (c ∷ []) lists views) (shares_length namespace (c ∷ []) lists views))
shares_more namespace (x ∷ xs) c lists views =
    let next : Lists = with_changed namespace (x ∷ []) lists in
    let first = shares_of (record { places = list_places lists; told = told_at namespace (x ∷ []) }) views in
    ap (all_together first) (shares_more namespace xs c next views) ∙ together_follows first (shares namespace xs next views) (shares namespace (c ∷ []) (lists_behind namespace xs next) views)
