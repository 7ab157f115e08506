-- The slot that a path leads to, component by component.
use Rattle.std.proofs.Common.{◌≡◌, ◌∙◌, ℕ, suc, ◌+◌, ◌<◌, ◌≤◌, List, [], ◌∷◌, length, drop, drop_of_length-le, get_or, refl, ap, sym, arith, add-one}
use Rattle.std.proofs.Math.Seq.{drop-cons}
use denote.Ref.{Bor}
use Rattle.dv_value.specs.declared.value.Value.{Value}
use Rattle.dv_value.specs.Tree.{Tree, Field}
use Rattle.dv_value.specs.Names.{value_under}
use Rattle.dv_value.specs.Inner.TreeLaws.{fields_again}
use Rattle.dv_path.specs.Slots.{Slot, taken, slot_of, next_slot, slot_behind, slot}
use Rattle.dv_path.specs.declared.slot.Slot as memory
use Rattle.dv_path.specs.declared.slot.Slot.TheVariants.{Taken, Free, Blocked}
use Rattle.dv_path.specs.SlotView.{slot_seen}

pub slot-first : (names : List (List ℕ)) (fs : List Field) (name : List ℕ) → 0 < length names → name ≡ get_or names 0 name → slot_behind (drop 1 names) (slot_of (value_under name fs)) ≡ slot fs names
unfolding slot
slot-first [] fs name some is = absurd (omega arith)
slot-first (n ∷ names) fs name some is = ap (λ m. slot_behind names (slot_of (value_under m fs))) is ∙ ap (λ gs. slot_behind names (slot_of (value_under n gs))) (sym (fields_again fs))

pub slot-more : (names : List (List ℕ)) (i : ℕ) (name : List ℕ) (s : Slot) → i < length names → name ≡ get_or names i name → slot_behind (drop (i + 1) names) (next_slot name s) ≡ slot_behind (drop i names) s
slot-more names i name s within is =
    let here : drop i names ≡ name ∷ drop (i + 1) names = rw add-one (drop-cons names i name within ∙ ap (λ n. n ∷ drop (suc i) names) (sym is)) in
    ap (λ ns. slot_behind ns s) (sym here)

pub slot-end : (names : List (List ℕ)) (i : ℕ) (s : Slot) → length names ≤ i → slot_behind (drop i names) s ≡ s
slot-end names i s past = ap (λ ns. slot_behind ns s) (drop_of_length-le names past)

pub no-value : (s : memory.Slot) → ((v : Bor Value) → s ≡ Taken v → ⊥) → (w : Tree) → slot_seen s ≡ taken w → ⊥
no-value (Taken v) none w at = none v refl
no-value Free none w at = cc
no-value Blocked none w at = cc
