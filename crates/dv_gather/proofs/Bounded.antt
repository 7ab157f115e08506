-- How far sums can be from 0, state by state and group by group.
use Rattle.std.proofs.Common.{◌≡◌, ◌∙◌, ap, sym, subst, List, [], ◌∷◌, ℕ, zero, suc, ◌<◌, ◌≤◌, length, map, slice_set, get_or, arith, Option, Some, Bool, true, false, cond}
use Rattle.std.proofs.lemmas.Int.{ints}
use Rattle.std.specs.Map.{lookup}
use Rattle.std.specs.Option.{unwrap_or}
use Rattle.std.specs.BTreeMap.{insert_entry, is_at}
use Rattle.std.specs.Ordering.{match_ordering}
use Rattle.std.specs.declared.cmp.Ordering.{Ordering}
use Rattle.std.specs.declared.cmp.Ordering.TheVariants.{Less, Equal, Greater}
use Rattle.dv_value.specs.Tree.{Tree}
use Rattle.dv_order.specs.Key.{KeyTree, key_order}
use Rattle.dv_gather.specs.declared.accumulator.Accumulator.{Accumulator}
use Rattle.dv_gather.specs.declared.accumulator.Accumulator.TheVariants.{Sum, Min, Max, Push}
use Rattle.dv_gather.specs.declared.accumulator_state.AccumulatorState as memory
use Rattle.dv_gather.specs.declared.group_state.GroupState as stored
use Rattle.dv_gather.specs.Inner.SumBounds.{IsWithinCount, AreWithin, EachWithin}
use Rattle.dv_gather.specs.Grouping.{Accumulation}
use Rattle.dv_gather.specs.Inner.GroupStates.{GroupState, started, started_from, states_of_none, without_rows}
use Rattle.dv_gather.specs.Inner.AccumulatorStates.{AccumulatorState, sum_state, extreme_state, array_state, of_none}
use Rattle.dv_gather.specs.Inner.StateView.{state_seen, group_state_seen, groups_seen}
use Rattle.dv_gather.proofs.GroupRows.{seen-inserted}

-- ---- states

later : (t : AccumulatorState) (m n : ℕ) → m ≤ n → IsWithinCount m t → IsWithinCount n t
later (sum_state x narrow) m n le h = (omega (arith, ints), omega (arith, ints))
later (extreme_state e v) m n le h = tt
later (array_state vs) m n le h = tt

none-yet : (a : Accumulator) (count : ℕ) → IsWithinCount count (of_none a)
none-yet Sum count = (omega (arith, ints), omega (arith, ints))
none-yet Min count = tt
none-yet Max count = tt
none-yet Push count = tt

-- the state at a place
pub at-place : (place count : ℕ) (ts : List memory.AccumulatorState) (t : memory.AccumulatorState) → place < length ts → AreWithin place count (map state_seen ts) → IsWithinCount count (state_seen (get_or ts place t))
at-place place count [] t within h = absurd (omega arith)
at-place zero count (u ∷ ts) t within h = h.0
at-place (suc place) count (u ∷ ts) t within h = at-place place count ts t (omega arith) h.1

pub one-more : (place count : ℕ) (ts : List memory.AccumulatorState) (now : memory.AccumulatorState) → IsWithinCount (suc count) (state_seen now) → AreWithin place count (map state_seen ts) → AreWithin (suc place) count (map state_seen (slice_set ts place now))
one-more place count [] now is h = tt
one-more zero count (t ∷ ts) now is h = (is, h.1)
one-more (suc place) count (t ∷ ts) now is h = (h.0, one-more place count ts now is h.1)

pub none-more : (place count : ℕ) (ts : List AccumulatorState) → AreWithin place count ts → AreWithin (suc place) count ts
none-more place count [] h = tt
none-more zero count (t ∷ ts) h = (later t count (suc count) (omega arith) h.0, h.1)
none-more (suc place) count (t ∷ ts) h = (h.0, none-more place count ts h.1)

pub all-later : (m n : ℕ) (ts : List AccumulatorState) → m ≤ n → AreWithin 0 m ts → AreWithin 0 n ts
all-later m n [] le h = tt
all-later m n (t ∷ ts) le h = (later t m n le h.0, all-later m n ts le h.1)

pub row-added : (place count : ℕ) (ts : List AccumulatorState) → AreWithin place count ts → AreWithin 0 (suc count) ts
row-added place count [] h = tt
row-added zero count (t ∷ ts) h = all-later count (suc count) (t ∷ ts) (omega arith) h
row-added (suc place) count (t ∷ ts) h = (h.0, row-added place count ts h.1)

-- ---- groups

none-started : (fields : List Accumulation) (count : ℕ) → AreWithin 0 count (states_of_none fields)
none-started [] count = tt
none-started (a ∷ fields) count = (none-yet a.accumulator count, none-started fields count)

pub started-within : (fields : List Accumulation) (k : Tree) (t : GroupState) (count : ℕ) → AreWithin 0 count t.1 → AreWithin 0 count (started fields k t).1
started-within fields k t count h = go t.0
  where
    go : (ks : List Tree) → AreWithin 0 count (started_from fields k ks t.1).1
    go [] = none-started fields count
    go (l ∷ ls) = h

pub each-later : (m n : ℕ) (es : List (KeyTree × GroupState)) → m ≤ n → EachWithin m es → EachWithin n es
each-later m n [] le h = tt
each-later m n (e ∷ es) le h = (all-later m n e.1.1 le h.0, each-later m n es le h.1)

inserted : (count : ℕ) (es : List (KeyTree × GroupState)) (k : KeyTree) (t : GroupState) → EachWithin count es → AreWithin 0 count t.1 → EachWithin count (insert_entry key_order es k t)
inserted count [] k t h is = (is, tt)
inserted count (e ∷ es) k t h is = go (key_order k e.0) (inserted count es k t h.1 is)
  where
    go : (o : Ordering) → EachWithin count (insert_entry key_order es k t) → EachWithin count (match_ordering o ((k, t) ∷ e ∷ es) ((e.0, t) ∷ es) (e ∷ insert_entry key_order es k t))
    go Less rest = (is, h)
    go Equal rest = (is, h.1)
    go Greater rest = (h.0, rest)

-- the group of a key, or one without rows
pub found-within : (count : ℕ) (es : List (KeyTree × stored.GroupState)) (k : KeyTree) (none was : stored.GroupState) (o : Option stored.GroupState) → group_state_seen none ≡ without_rows → was ≡ unwrap_or o none → o ≡ lookup (is_at (key_order k)) es → EachWithin count (groups_seen es) → AreWithin 0 count (group_state_seen was).1
found-within count es k none was o empty there at h =
    let Within : stored.GroupState → Type 0 = λ t. AreWithin 0 count (group_state_seen t).1 in
    subst Within (sym there) (subst (λ (p : Option stored.GroupState). Within (unwrap_or p none)) (sym at) (among es h))
  where
    among : (fs : List (KeyTree × stored.GroupState)) → EachWithin count (groups_seen fs) → AreWithin 0 count (group_state_seen (unwrap_or (lookup (is_at (key_order k)) fs) none)).1
    among [] h = subst (λ (t : GroupState). AreWithin 0 count t.1) (sym empty) tt
    among (f ∷ fs) h = here (is_at (key_order k) f.0) (among fs h.1)
      where
        here : (b : Bool) → AreWithin 0 count (group_state_seen (unwrap_or (lookup (is_at (key_order k)) fs) none)).1 → AreWithin 0 count (group_state_seen (unwrap_or (cond b (Some f.1) (lookup (is_at (key_order k)) fs)) none)).1
        here true rest = h.0
        here false rest = rest

-- one more row in the group of its key
pub put-within : (count : ℕ) (es final : List (KeyTree × stored.GroupState)) (k : KeyTree) (now : stored.GroupState) → final ≡ insert_entry key_order es k now → EachWithin count (groups_seen es) → AreWithin 0 (suc count) (group_state_seen now).1 → EachWithin (suc count) (groups_seen final)
put-within count es final k now written h is =
    let seen : groups_seen final ≡ insert_entry key_order (groups_seen es) k (group_state_seen now) = ap groups_seen written ∙ seen-inserted group_state_seen key_order es k now in
    subst (EachWithin (suc count)) (sym seen) (inserted (suc count) (groups_seen es) k (group_state_seen now) (each-later count (suc count) (groups_seen es) (omega arith) h) is)
