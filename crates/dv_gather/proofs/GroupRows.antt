-- What groups hold is what is computed from the rows of each group.
use Rattle.std.proofs.Common.{◌≡◌, ◌∙◌, ap, ap₂, sym, refl, Bool, true, false, not, ◌||◌, ◌&&◌, List, [], ◌∷◌, ◌++◌, ℕ, suc, ℤ, pos, ◌+ℤ◌, map, Option, Some, None, append_assoc, append-nil, arith, cond, codes}
use Rattle.std.proofs.lemmas.Int.{ints}
use Rattle.std.specs.List.{list_any}
use Rattle.std.specs.Map.{lookup}
use Rattle.std.specs.Option.{option_map, unwrap_or}
use Rattle.std.specs.BTreeMap.{insert_entry, is_at}
use Rattle.std.specs.Ordering.{match_ordering}
use Rattle.std.specs.declared.cmp.Ordering.{Ordering}
use Rattle.std.specs.declared.cmp.Ordering.TheVariants.{Less, Equal, Greater}
use Rattle.dv_value.specs.Tree.{Tree, Field}
use Rattle.dv_order.specs.Order.{canon, order}
use Rattle.dv_order.specs.Key.{KeyTree, value, key_order}
use Rattle.dv_candidates.specs.Candidates.{Candidate}
use Rattle.dv_row.specs.Expressions.{Expression, value_of, with_field_behind}
use Rattle.dv_row.specs.Row.{Row}
use Rattle.dv_gather.specs.declared.extreme.Extreme.{Extreme}
use Rattle.dv_gather.specs.declared.accumulator.Accumulator.{Accumulator}
use Rattle.dv_gather.specs.declared.accumulator.Accumulator.TheVariants.{Sum, Min, Max, Push}
use Rattle.dv_gather.specs.Extremes.{better, extreme_from}
use Rattle.dv_gather.specs.Inner.Gathering.{Entry, listed, group_put, gathered}
use Rattle.dv_gather.specs.Grouping.{Accumulation, Grouping, key_in, keyed, with_present, values_over, accumulated, with_accumulated, key_of_group, group_row, grouped}
use Rattle.dv_gather.specs.Sums.{addend, is_int64, total}
use Rattle.dv_gather.specs.Inner.GroupStates.{GroupState, with_present_at, with_values_from, with_values, group_with_row, without_rows, groups_with_row_under, groups_with_rows, with_named, key_or_null, row_of_state}
use Rattle.dv_gather.specs.Inner.AccumulatorStates.{AccumulatorState, sum_state, extreme_state, array_state, of_none, with_value, with_each_value, with_value_at, state_value}
use Rattle.dv_gather.proofs.Grouped.{groups-are}

-- ---- maps whose values are seen as others

module _ {K X Y : Type 0} (f : X → Y) where
  abbrev pub seen-by : List (K × X) → List (K × Y)
  seen-by = map (λ e. (e.0, f e.1))

  pub seen-inserted : (cmp : K → K → Ordering) (es : List (K × X)) (k : K) (x : X) → seen-by (insert_entry cmp es k x) ≡ insert_entry cmp (seen-by es) k (f x)
  seen-inserted cmp [] k x = refl
  seen-inserted cmp (e ∷ es) k x = go (cmp k e.0) (seen-inserted cmp es k x)
    where
      go : (o : Ordering) → seen-by (insert_entry cmp es k x) ≡ insert_entry cmp (seen-by es) k (f x)
          → seen-by (match_ordering o ((k, x) ∷ e ∷ es) ((e.0, x) ∷ es) (e ∷ insert_entry cmp es k x)) ≡ match_ordering o ((k, f x) ∷ (e.0, f e.1) ∷ seen-by es) ((e.0, f x) ∷ seen-by es) ((e.0, f e.1) ∷ insert_entry cmp (seen-by es) k (f x))
      go Less rest = refl
      go Equal rest = refl
      go Greater rest = ap (λ l. let g : K × Y = (e.0, f e.1) in g ∷ l) rest

  pub seen-found : (test : K → Bool) (es : List (K × X)) → lookup test (seen-by es) ≡ option_map f (lookup test es)
  seen-found test [] = refl
  seen-found test (e ∷ es) = go (test e.0) (seen-found test es)
    where
      go : (b : Bool) → lookup test (seen-by es) ≡ option_map f (lookup test es) → cond b (Some (f e.1)) (lookup test (seen-by es)) ≡ option_map f (cond b (Some e.1) (lookup test es))
      go true rest = refl
      go false rest = rest

-- ---- values

each-more : (vs : List Tree) (v : Tree) (t : AccumulatorState) → with_each_value (vs ++ v ∷ []) t ≡ with_value v (with_each_value vs t)
each-more [] v t = refl
each-more (w ∷ vs) v t = each-more vs v (with_value w t)

each-all : (vs us : List Tree) → with_each_value vs (array_state us) ≡ array_state (us ++ vs)
each-all [] us = ap array_state (sym (append-nil us))
each-all (v ∷ vs) us = each-all vs (us ++ v ∷ []) ∙ ap array_state (append_assoc us (v ∷ []) vs)

each-extreme : (e : Extreme) (vs : List Tree) (b : Tree) → with_each_value vs (extreme_state e b) ≡ extreme_state e (extreme_from e b vs)
each-extreme e [] b = refl
each-extreme e (v ∷ vs) b = each-extreme e vs (better e v b)

and-true : (b : Bool) → b ≡ b && true
and-true true = refl
and-true false = refl

neither : (b c d : Bool) → (b && not c) && not d ≡ b && not (c || d)
neither true true d = refl
neither true false d = refl
neither false c d = refl

each-sum : (vs : List Tree) (n : ℤ) (narrow : Bool) → with_each_value vs (sum_state n narrow) ≡ sum_state (n +ℤ total vs) (narrow && not (list_any is_int64 vs))
each-sum [] n narrow =
    let same : n ≡ n +ℤ pos 0 = omega (arith, ints) in
    ap₂ sum_state same (and-true narrow)
each-sum (v ∷ vs) n narrow =
    let same : (n +ℤ addend v) +ℤ total vs ≡ n +ℤ (addend v +ℤ total vs) = plus-assoc n (addend v) (total vs) in
    each-sum vs (n +ℤ addend v) (narrow && not (is_int64 v)) ∙ ap₂ sum_state same (neither narrow (is_int64 v) (list_any is_int64 vs))
  where
    plus-assoc : (a b c : ℤ) → (a +ℤ b) +ℤ c ≡ a +ℤ (b +ℤ c)
    plus-assoc a b c = omega (arith, ints)

-- what is computed from values that are added one after the other
value-each : (a : Accumulator) (vs : List Tree) → state_value (with_each_value vs (of_none a)) ≡ accumulated a vs
value-each Sum vs =
    ap state_value (each-sum vs (pos 0) true) ∙ ap (λ n. state_value (sum_state n (not (list_any is_int64 vs)))) (nothing-more (total vs))
  where
    nothing-more : (n : ℤ) → pos 0 +ℤ n ≡ n
    nothing-more n = omega (arith, ints)
value-each Min vs = ap state_value (each-extreme Extreme.Least vs Tree.null)
value-each Max vs = ap state_value (each-extreme Extreme.Greatest vs Tree.null)
value-each Push vs = ap state_value (each-all vs [])

-- ---- rows of one group

abbrev with_present_value : Candidate → AccumulatorState → AccumulatorState
with_present_value None t = t
with_present_value (Some v) t = with_value v t

present-front : (c : Candidate) (vs ws : List Tree) → with_present c (vs ++ ws) ≡ with_present c vs ++ ws
present-front None vs ws = refl
present-front (Some v) vs ws = refl

pub values-more : (e : Expression) (ds : List Row) (d : Row) → values_over e (ds ++ d ∷ []) ≡ values_over e ds ++ with_present (value_of e d) []
values-more e [] d = refl
values-more e (c ∷ ds) d = ap (with_present (value_of e c)) (values-more e ds d) ∙ present-front (value_of e c) (values_over e ds) (with_present (value_of e d) [])

abbrev state_over : List Row → Accumulation → AccumulatorState
state_over ds a = with_each_value (values_over a.argument ds) (of_none a.accumulator)

state-more : (a : Accumulation) (ds : List Row) (d : Row) → state_over (ds ++ d ∷ []) a ≡ with_present_value (value_of a.argument d) (state_over ds a)
state-more a ds d = ap (λ vs. with_each_value vs (of_none a.accumulator)) (values-more a.argument ds d) ∙ go (value_of a.argument d)
  where
    go : (c : Candidate) → with_each_value (values_over a.argument ds ++ with_present c []) (of_none a.accumulator) ≡ with_present_value c (state_over ds a)
    go None = ap (λ vs. with_each_value vs (of_none a.accumulator)) (append-nil (values_over a.argument ds))
    go (Some v) = each-more (values_over a.argument ds) v (of_none a.accumulator)

-- values added from a later place on leave the first state as it is
from-next : (i : ℕ) (fields : List Accumulation) (d : Row) (t : AccumulatorState) (ts : List AccumulatorState) → with_values_from (suc i) fields d (t ∷ ts) ≡ t ∷ with_values_from i fields d ts
from-next i [] d t ts = refl
from-next i (a ∷ fields) d t ts = go (value_of a.argument d) (from-next (suc i) fields d t)
  where
    go : (c : Candidate) → ((us : List AccumulatorState) → with_values_from (suc (suc i)) fields d (t ∷ us) ≡ t ∷ with_values_from (suc i) fields d us) → with_values_from (suc (suc i)) fields d (with_present_at (suc i) c (t ∷ ts)) ≡ t ∷ with_values_from (suc i) fields d (with_present_at i c ts)
    go None rest = rest ts
    go (Some v) rest = rest (with_value_at i v ts)

states-more : (fields : List Accumulation) (ds : List Row) (d : Row) → with_values fields d (map (state_over ds) fields) ≡ map (state_over (ds ++ d ∷ [])) fields
states-more [] ds d = refl
states-more (a ∷ fields) ds d =
    ap (with_values_from 1 fields d) (at-first (value_of a.argument d))
    ∙ from-next 0 fields d (with_present_value (value_of a.argument d) (state_over ds a)) (map (state_over ds) fields)
    ∙ ap₂ (λ (t : AccumulatorState) (ts : List AccumulatorState). t ∷ ts) (sym (state-more a ds d)) (states-more fields ds d)
  where
    at-first : (c : Candidate) → with_present_at 0 c (state_over ds a ∷ map (state_over ds) fields) ≡ with_present_value c (state_over ds a) ∷ map (state_over ds) fields
    at-first None = refl
    at-first (Some v) = refl

value-fields : (fields : List Accumulation) (ds : List Row) (fs : List Field) → with_named fields (map state_value (map (state_over ds) fields)) fs ≡ with_accumulated fields ds fs
value-fields [] ds fs = refl
value-fields (a ∷ fields) ds fs =
    ap (λ v. with_named fields (map state_value (map (state_over ds) fields)) (with_field_behind a.name (Some v) fs)) (value-each a.accumulator (values_over a.argument ds))
    ∙ value-fields fields ds (with_field_behind a.name (Some (accumulated a.accumulator (values_over a.argument ds))) fs)

-- ---- groups

module _ (g : Grouping) where
  abbrev first_of : List Row → List Tree
  first_of [] = []
  first_of (d ∷ ds) = key_in g d ∷ []

  -- what a group holds after these rows
  abbrev so_far : List Row → GroupState
  so_far ds = (first_of ds, map (state_over ds) g.fields)

  abbrev pair : List Tree → List AccumulatorState → GroupState
  pair k ts = (k, ts)

  so_far-more : (ds : List Row) (d : Row) → group_with_row g d (so_far ds) ≡ so_far (ds ++ d ∷ [])
  so_far-more [] d = ap (pair (key_in g d ∷ [])) (states-more g.fields [] d)
  so_far-more (c ∷ ds) d = ap (pair (key_in g c ∷ [])) (states-more g.fields (c ∷ ds) d)

  added-so_far : (d : Row) (k : KeyTree) (es : List Entry) → seen-by so_far (group_put k d es) ≡ groups_with_row_under g d k (seen-by so_far es)
  added-so_far d k es =
      seen-inserted so_far key_order es k (listed k es ++ d ∷ [])
      ∙ ap (insert_entry key_order (seen-by so_far es) k) (sym (so_far-more (listed k es) d) ∙ there (lookup (is_at (key_order k)) es) ∙ ap (λ o. group_with_row g d (unwrap_or o without_rows)) (sym (seen-found so_far (is_at (key_order k)) es)))
    where
      there : (o : Option (List Row)) → group_with_row g d (so_far (unwrap_or o [])) ≡ group_with_row g d (unwrap_or (option_map so_far o) without_rows)
      there None = refl
      there (Some ds) = refl

  rows-added : (ds : List Row) (es : List Entry) → groups_with_rows g ds (seen-by so_far es) ≡ seen-by so_far (gathered es (map (keyed g) ds))
  rows-added [] es = refl
  rows-added (d ∷ ds) es =
      let k = value (canon (key_in g d)) in
      ap (groups_with_rows g ds) (sym (added-so_far d k es)) ∙ rows-added ds (group_put k d es)

  row-so_far : (ds : List Row) → row_of_state g.fields (so_far ds) ≡ group_row g ds
  row-so_far ds = value-fields g.fields ds _ ∙ ap (λ k. with_accumulated g.fields ds ((codes "_id", k) ∷ [])) (keys ds)
    where
      keys : (ds : List Row) → key_or_null (first_of ds) ≡ key_of_group g ds
      keys [] = refl
      keys (d ∷ ds) = refl

  rows-so_far : (es : List Entry) → map (λ e. row_of_state g.fields e.1) (seen-by so_far es) ≡ map (group_row g) (map (λ e. e.1) es)
  rows-so_far [] = refl
  rows-so_far (e ∷ es) = ap₂ (λ (r : Row) (rs : List Row). r ∷ rs) (row-so_far e.1) (rows-so_far es)

  pub rows-are : (stands : (v w : Tree) → key_order (value (canon v)) (value (canon w)) ≡ order v w) (ds : List Row) → map (λ e. row_of_state g.fields e.1) (groups_with_rows g ds []) ≡ grouped g ds
  unfolding grouped
  rows-are stands ds =
      ap (map (λ (e : KeyTree × GroupState). row_of_state g.fields e.1)) (rows-added ds [])
      ∙ rows-so_far (gathered [] (map (keyed g) ds))
      ∙ ap (map (group_row g)) (groups-are stands (map (keyed g) ds))
