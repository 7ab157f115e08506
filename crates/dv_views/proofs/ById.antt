-- Rows that are at their `_id`s still are after stages that leave these as they are.
use Rattle.std.proofs.Common.{◌≡◌, ◌||◌, ℕ, zero, suc, Bool, true, false, not, List, [], ◌∷◌, ◌++◌, map, filter, take, drop, codes, cond, Option, Some, None, refl, ap, sym, subst, ◌∙◌}
use Rattle.std.specs.Bool.{if◌then◌else◌}
use Rattle.std.specs.List.{list_any}
use Rattle.std.specs.Str.{bytes_eq}
use Rattle.dv_value.specs.Tree.{Tree, Field, fields_of, list_of_fields}
use Rattle.dv_value.specs.Names.{has_name, has_zero, with_value_under}
use Rattle.dv_order.specs.Order.{canon}
use Rattle.dv_order.specs.Key.{value}
use Rattle.dv_change.specs.declared.position.Part.TheVariants.{Up}
use Rattle.dv_change.specs.Changes.{Positioned, forget}
use Rattle.dv_change.specs.Positions.{PosTree}
use Rattle.dv_change.specs.Work.{through_forms}
use Rattle.dv_match.specs.Match.{matches}
use Rattle.dv_row.specs.declared.project.Project as projects
use Rattle.dv_row.specs.declared.project.Project.TheVariants.{Include, Exclude}
use Rattle.dv_row.specs.Expressions.{Computed, nothing, computed, value_of, with_computed, with_field_behind}
use Rattle.dv_row.specs.Projecting.{ends, fields_left, if_it, left_at, left_inside, paths_behind, projected, row_left, with_left}
use Rattle.dv_row.specs.Inner.Shown.{begins_with_name, is_alone}
use Rattle.dv_gather.specs.declared.lookup.Lookup.{Lookup}
use Rattle.dv_gather.specs.Grouping.{Accumulation, Grouping, field_over, group_row, key_of_group, keyed, with_accumulated}
use Rattle.dv_gather.specs.Groups.{groups_of}
use Rattle.dv_gather.specs.Lookups.{joined_documents, joined_row}
use Rattle.dv_group.specs.Placed.{grouped_at}
use Rattle.dv_join.specs.Turning.{first_input}
use Rattle.dv_coll.specs.Collection.{HasId}
use Rattle.std.specs.List.{AllByRecursion}
use Rattle.std.proofs.lemmas.Bool.{and_parts}
use Rattle.dv_pipe.specs.declared.stage.Stage.{Stage}
use Rattle.dv_pipe.specs.declared.stage.Stage.TheVariants as stages
use Rattle.dv_pipe.specs.Sources.{Row}
use Rattle.dv_views.specs.Inner.ById.{AreAtIds, IsAtId, at_ids_behind, at_ids_through, shows_id}
use Rattle.dv_views.specs.Placed.{forms, lists_in, own_position, positioned, stage_at}

not-true : (b : Bool) → not b ≡ true → b ≡ false
not-true true e = absurd cc
not-true false e = refl

-- ---- rows that change after their first fields

abbrev Begins : Field → Row → Type 0
Begins f d = (fs : Row) × (d ≡ f ∷ fs)

at-id-still : (pos : PosTree) (f : Field) (fs d : Row) → IsAtId (pos, f ∷ fs) → Begins f d → IsAtId (pos, d)
at-id-still pos f fs d here begins = subst (λ (e : Row). IsAtId (pos, e)) (sym begins.1) here

behind-begins : (f : Field) (name : List ℕ) (c : Option Tree) (d : Row) → Begins f d → Begins f (with_field_behind name c d)
behind-begins f name None d begins = begins
behind-begins f name (Some v) d begins = subst (λ (e : Row). Begins f (with_field_behind name (Some v) e)) (sym begins.1) (by (has_zero name || has_name name (f ∷ begins.0)))
  where
    by : (b : Bool) → Begins f (if b then f ∷ begins.0 else (f ∷ begins.0) ++ (name, v) ∷ [])
    by true = (begins.0, refl)
    by false = (begins.0 ++ (name, v) ∷ [], refl)

computed-begins : (f : Field) (es : Computed) (d fs : Row) → Begins f fs → Begins f (with_computed es d fs)
unfolding with_computed
computed-begins f nothing d fs begins = begins
computed-begins f (computed name e es) d fs begins = computed-begins f es d (with_field_behind name (value_of e d) fs) (behind-begins f name (value_of e d) fs begins)

accumulated-begins : (f : Field) (fields : List Accumulation) (ds : List Row) (fs : Row) → Begins f fs → Begins f (with_accumulated fields ds fs)
accumulated-begins f [] ds fs begins = begins
accumulated-begins f (a ∷ more) ds fs begins = accumulated-begins f more ds (with_field_behind a.name (Some (field_over a ds)) fs) (behind-begins f a.name (Some (field_over a ds)) fs begins)

-- ---- what a $project shows

ends-behind : (name : List ℕ) (paths : List (List (List ℕ))) → list_any (is_alone name) paths ≡ true → list_any ends (paths_behind name paths) ≡ true
ends-behind name [] some = cc
ends-behind name ([] ∷ paths) some = ends-behind name paths some
ends-behind name ((n ∷ []) ∷ paths) some = by (bytes_eq name n) some (ends-behind name paths)
  where
    by : (b : Bool) → b || list_any (is_alone name) paths ≡ true → (list_any (is_alone name) paths ≡ true → list_any ends (paths_behind name paths) ≡ true)
        → list_any ends (if b then [] ∷ paths_behind name paths else paths_behind name paths) ≡ true
    by true some rest = refl
    by false some rest = rest some
ends-behind name ((n ∷ m ∷ ns) ∷ paths) some = by (bytes_eq name n) (ends-behind name paths some)
  where
    by : (b : Bool) → list_any ends (paths_behind name paths) ≡ true → list_any ends (if b then (m ∷ ns) ∷ paths_behind name paths else paths_behind name paths) ≡ true
    by true rest = rest
    by false rest = rest

left-ended : (paths : List (List (List ℕ))) (v : Tree) (inside : Option Tree) → list_any ends paths ≡ true → left_at true paths v inside ≡ Some v
left-ended [] v inside some = absurd cc
left-ended (p ∷ ps) v inside some = ap (λ (b : Bool). if b then if_it true v else inside) some

none-behind : (name : List ℕ) (paths : List (List (List ℕ))) → list_any (begins_with_name name) paths ≡ false → paths_behind name paths ≡ []
none-behind name [] none = refl
none-behind name ([] ∷ paths) none = none-behind name paths none
none-behind name ((n ∷ ns) ∷ paths) none = by (bytes_eq name n) none (none-behind name paths)
  where
    by : (b : Bool) → b || list_any (begins_with_name name) paths ≡ false → (list_any (begins_with_name name) paths ≡ false → paths_behind name paths ≡ []) → (if b then ns ∷ paths_behind name paths else paths_behind name paths) ≡ []
    by true none rest = absurd cc
    by false none rest = rest none

left-begins : (keeps : Bool) (paths : List (List (List ℕ))) (f : Field) (fs : Row) → left_at keeps (paths_behind f.0 paths) f.1 (left_inside keeps (paths_behind f.0 paths) f.1) ≡ Some f.1 → Begins f (row_left keeps paths (f ∷ fs))
unfolding fields_left
left-begins keeps paths f fs stays = (list_of_fields (fields_left keeps paths (fields_of fs)), ap (λ c. list_of_fields (with_left f.0 c (fields_left keeps paths (fields_of fs)))) stays)

shown-begins : (p : projects.Project) (f : Field) (fs : Row) → f.0 ≡ codes "_id" → shows_id p ≡ true → Begins f (projected p (f ∷ fs))
unfolding projected
shown-begins (Include paths es) f fs is shows =
    computed-begins f es (f ∷ fs) (row_left true paths (f ∷ fs))
    (left-begins true paths f fs (left-ended (paths_behind f.0 paths) f.1 (left_inside true (paths_behind f.0 paths) f.1) (ends-behind f.0 paths (ap (λ name. list_any (is_alone name) paths) is ∙ shows))))
shown-begins (Exclude paths) f fs is shows =
    left-begins false paths f fs
    (ap (λ ps. left_at false ps f.1 (left_inside false ps f.1)) (none-behind f.0 paths (ap (λ name. list_any (begins_with_name name) paths) is ∙ not-true (list_any (begins_with_name (codes "_id")) paths) shows)))

-- ---- what a $lookup adds

joined-begins : (l : Lookup) (others : List Row) (f : Field) (fs : Row) → f.0 ≡ codes "_id" → bytes_eq l.target (codes "_id") ≡ false → Begins f (joined_row l others (f ∷ fs))
joined-begins l others f fs is away = by (has_name l.target (f ∷ fs))
  where
    v : Tree
    v = joined_documents l others (f ∷ fs)

    by : (b : Bool) → Begins f (if b then with_value_under l.target v (f ∷ fs) else with_field_behind l.target (Some v) (f ∷ fs))
    by true = (with_value_under l.target v fs, ap (λ (c : Bool). if c then (f.0, v) ∷ fs else f ∷ with_value_under l.target v fs) (ap (bytes_eq l.target) is ∙ away))
    by false = behind-begins f l.target (Some v) (f ∷ fs) (fs, refl)

-- ---- rows at positions

filter-at-ids : (test : PosTree × Row → Bool) (rows : Positioned) → AreAtIds rows → AreAtIds (filter test rows)
filter-at-ids test [] are = tt
filter-at-ids test (e ∷ rows) are = by (test e) (filter-at-ids test rows are.1)
  where
    by : (b : Bool) → AreAtIds (filter test rows) → AreAtIds (cond b (e ∷ filter test rows) (filter test rows))
    by true rest = (are.0, rest)
    by false rest = rest

front-at-ids : (n : ℕ) (rows : Positioned) → AreAtIds rows → AreAtIds (take n rows)
front-at-ids zero rows are = tt
front-at-ids (suc n) [] are = tt
front-at-ids (suc n) (e ∷ rows) are = (are.0, front-at-ids n rows are.1)

map-at-ids : (h : Row → Row) → ((f : Field) (fs : Row) → f.0 ≡ codes "_id" → Begins f (h (f ∷ fs))) → (rows : Positioned) → AreAtIds rows → AreAtIds (map (λ e. (e.0, h e.1)) rows)
map-at-ids h begins [] are = tt
map-at-ids h begins (e ∷ rows) are = (one e.1 are.0, map-at-ids h begins rows are.1)
  where
    one : (d : Row) → IsAtId (e.0, d) → IsAtId (e.0, h d)
    one [] here = absurd here.0
    one (f ∷ fs) here = at-id-still e.0 f fs (h (f ∷ fs)) here (begins f fs here.0)

grouped-at-ids : (g : Grouping) (rows : Positioned) → AreAtIds (grouped_at g rows)
unfolding grouped_at
grouped-at-ids g rows = each (groups_of (map (keyed g) (forget rows)))
  where
    one : (v : Tree) (ds : List Row) → IsAtId (Up (value (canon v)) ∷ [], with_accumulated g.fields ds ((codes "_id", v) ∷ []))
    one v ds =
        at-id-still (Up (value (canon v)) ∷ []) (codes "_id", v) [] (with_accumulated g.fields ds ((codes "_id", v) ∷ [])) (refl, refl)
        (accumulated-begins (codes "_id", v) g.fields ds ((codes "_id", v) ∷ []) ([], refl))

    each : (gs : List (List Row)) → AreAtIds (map (λ ds. (Up (value (canon (key_of_group g ds))) ∷ [], group_row g ds)) gs)
    each [] = tt
    each (ds ∷ gs) = (one (key_of_group g ds) ds, each gs)

-- ---- stages

stage-at-ids : (s : Stage) (named : List Positioned) (rows : Positioned) (before : Bool) → (before ≡ true → AreAtIds rows) → at_ids_behind before s ≡ true → AreAtIds (stage_at s named rows)
unfolding stage_at
stage-at-ids (stages.Match form) named rows before are is = filter-at-ids (λ e. matches form e.1) rows (are is)
stage-at-ids (stages.Project p) named rows before are is = let two = and_parts before (shows_id p) is in map-at-ids (projected p) (λ f fs here. shown-begins p f fs here two.1) rows (are two.0)
stage-at-ids (stages.Unwind u) named rows before are is = absurd cc
stage-at-ids (stages.Sort parts) named rows before are is = absurd cc
stage-at-ids (stages.Limit count) named rows before are is = front-at-ids count rows (are is)
stage-at-ids (stages.Group g) named rows before are is = grouped-at-ids g rows
stage-at-ids (stages.Lookup l) named rows before are is =
    let two = and_parts before (not (bytes_eq l.target (codes "_id"))) is in
    map-at-ids (joined_row l (forget (first_input named))) (λ f fs here. joined-begins l (forget (first_input named)) f fs here (not-true (bytes_eq l.target (codes "_id")) two.1)) rows (are two.0)

pub through_at_ids : (ss : List Stage) (named : List Positioned) (rows : Positioned) (before : Bool) → (before ≡ true → AreAtIds rows) → at_ids_through before ss ≡ true → AreAtIds (through_forms (forms ss named) rows)
through_at_ids [] named rows before are is = are is
through_at_ids (s ∷ ss) named rows before are is =
    through_at_ids ss (drop (lists_in s) named) (stage_at s (take (lists_in s) named) rows) (at_ids_behind before s) (stage-at-ids s (take (lists_in s) named) rows before are) is

-- ---- documents of a collection

pub positioned_at_ids : (ds : List Row) → AllByRecursion HasId ds → AreAtIds (positioned ds)
positioned_at_ids [] all = tt
positioned_at_ids (d ∷ ds) all = (one d all.0, positioned_at_ids ds all.1)
  where
    one : (d : Row) → HasId d → IsAtId (own_position d, d)
    one [] h = absurd h
    one (f ∷ fs) h = (h.0, refl)
