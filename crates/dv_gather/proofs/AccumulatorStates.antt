-- Accumulator states and group states in memory, loop by loop.
use Rattle.std.proofs.Common.{◌≡◌, ◌∙◌, ap, sym, refl, List, [], ◌∷◌, ℕ, zero, suc, ◌<◌, ◌≤◌, length, map, slice_set, get_or, arith, Option, Some, None, Result, Ok, Err}
use Rattle.std.specs.Prelude.{OnOk}
use Rattle.std.specs.Map.{lookup}
use Rattle.std.specs.Option.{option_map, unwrap_or}
use Rattle.std.specs.BTreeMap.{insert_entry, is_at}
use Rattle.dv_value.specs.Tree.{Tree}
use Rattle.dv_order.specs.Order.{canon}
use Rattle.dv_order.specs.Key.{KeyTree, value, key_order}
use Rattle.dv_row.specs.Row.{Row}
use Rattle.dv_gather.specs.declared.accumulator_state.AccumulatorState as memory
use Rattle.dv_gather.specs.declared.group_state.GroupState as stored
use Rattle.dv_gather.specs.Grouping.{Accumulation, Grouping, key_in}
use Rattle.dv_gather.specs.Inner.GroupStates.{with_row_values, started, group_with_row, without_rows, groups_with_row_under, groups_with_row, row_of_state}
use Rattle.dv_gather.specs.Inner.AccumulatorStates.{with_value, with_value_at}
use Rattle.dv_gather.specs.Inner.StateView.{state_seen, group_state_seen, groups_seen}
use Rattle.dv_gather.proofs.GroupRows.{seen-inserted, seen-found}

-- one more value in the state at a place
pub value-added : (v : Tree) (place : ℕ) (ts : List memory.AccumulatorState) (none now : memory.AccumulatorState) → place < length ts → state_seen now ≡ with_value v (state_seen (get_or ts place none)) → map state_seen (slice_set ts place now) ≡ with_value_at place v (map state_seen ts)
value-added v place [] none now within added = absurd (omega arith)
value-added v zero (t ∷ ts) none now within added = ap (λ s. s ∷ map state_seen ts) added
value-added v (suc place) (t ∷ ts) none now within added = ap (λ l. state_seen t ∷ l) (value-added v place ts none now (omega arith) added)

pub no-state : (v : Tree) (place : ℕ) (ts : List memory.AccumulatorState) → length ts ≤ place → map state_seen ts ≡ with_value_at place v (map state_seen ts)
no-state v place [] past = refl
no-state v zero (t ∷ ts) past = absurd (omega arith)
no-state v (suc place) (t ∷ ts) past = ap (λ l. state_seen t ∷ l) (no-state v place ts (omega arith))

-- the rows of groups by their keys
pub rows-seen : (fields : List Accumulation) (es : List (KeyTree × stored.GroupState)) → map (λ t. row_of_state fields (group_state_seen t)) (map (λ e. e.1) es) ≡ map (λ e. row_of_state fields e.1) (groups_seen es)
rows-seen fields [] = refl
rows-seen fields (e ∷ es) = ap (λ (rs : List Row). row_of_state fields (group_state_seen e.1) ∷ rs) (rows-seen fields es)

-- one more row in the group of its key
module _ (g : Grouping) (d : Row) (k : KeyTree) (es final : List (KeyTree × stored.GroupState)) (none was now : stored.GroupState) where
  before : (o : Option stored.GroupState) → group_state_seen none ≡ without_rows → group_state_seen (unwrap_or o none) ≡ unwrap_or (option_map group_state_seen o) without_rows
  before None empty = empty
  before (Some t) empty = refl

  pub group-with-row : (fields : List Accumulation) (key : Tree) (o : Option stored.GroupState) → group_state_seen now ≡ with_row_values fields d (started fields key (group_state_seen was)) → fields ≡ g.fields → key ≡ key_in g d → k ≡ value (canon (key_in g d)) → group_state_seen none ≡ without_rows
      → was ≡ unwrap_or o none → o ≡ lookup (is_at (key_order k)) es → final ≡ insert_entry key_order es k now → groups_seen final ≡ groups_with_row g d (groups_seen es)
  group-with-row fields key o added same keyed is empty there at written =
      ap groups_seen written ∙ seen-inserted group_state_seen key_order es k now
      ∙ ap (insert_entry key_order (groups_seen es) k)
      (added ∙ ap (λ fs. with_row_values fs d (started fs key (group_state_seen was))) same ∙ ap (λ l. with_row_values g.fields d (started g.fields l (group_state_seen was))) keyed
      ∙ ap (group_with_row g d) (ap group_state_seen there ∙ before o empty ∙ ap (λ p. unwrap_or (option_map group_state_seen p) without_rows) at ∙ ap (λ p. unwrap_or p without_rows) (sym (seen-found group_state_seen (is_at (key_order k)) es))))
      ∙ ap (λ l. groups_with_row_under g d l (groups_seen es)) is

pub on-ok : {X E : Type 0} {P Q : Type 0} → (P → Q) → (r : Result X E) → OnOk r P → OnOk r Q
on-ok f (Ok x) p = f p
on-ok f (Err e) p = tt
