-- What documents that are the same down to a level have in common.
use Rattle.std.proofs.Common.{◌≡◌, ◌∙◌, ap, ap₂, sym, refl, List, [], ◌∷◌, ℕ, zero, suc, ◌+◌, ◌-◌, ◌<◌, map, length, length-append, Option, Some, None, slice_get, decimal, arith, subst}
use Rattle.std.specs.Option.{option_map}
use Rattle.std.proofs.Math.ListN.{replicate}
use Rattle.std.proofs.lemmas.List.{length-replicate}
use Rattle.dv_value.specs.Spelling.{payload, fields_spelling, elements_spelling, element_spelling, kind_of, levels, fields_levels, elements_levels}
use Rattle.dv_value.specs.Tree.{Tree, document, array, Fields, no_fields, field, fields_of, list_of_fields, Elements, no_elements, element, elements_of, list_of_elements}
use Rattle.dv_value.specs.Names.{value_under}
use Rattle.dv_value.specs.Inner.Spelled.{length-array, length-document, length-element_spelling, length_binary}
use Rattle.dv_value.specs.Inner.TreeLaws.{elements_again, fields_again}
use Rattle.dv_candidates.specs.Path.{index_of}
use Rattle.dv_path.specs.Slots.{Slot, taken, free, blocked, slot_of, element_slot, next_slot, slot_behind}
use Rattle.dv_update.specs.Inner.StandIn.{in_one_piece, down_to, fields_down_to}
use Rattle.dv_update.proofs.DownTo.{Path, below, value-marked, element-there, fields-opened, elements-opened}

-- ---- the slot at the end of a path

abbrev pub slot_down_to : ℕ → Slot → Slot
slot_down_to n (taken v) = taken (down_to n v)
slot_down_to n free = free
slot_down_to n blocked = blocked

pub slot-of : (n : ℕ) (c : Option Tree) → slot_of (option_map (down_to n) c) ≡ slot_down_to n (slot_of c)
slot-of n None = refl
slot-of n (Some v) = refl

element-slot : (n : ℕ) (place : Option ℕ) (vs : List Tree) → element_slot place (map (down_to n) vs) ≡ slot_down_to n (element_slot place vs)
element-slot n None vs = refl
element-slot n (Some place) vs = ap slot_of (element-there n vs place) ∙ slot-of n (slice_get vs place)

next-slot : (n : ℕ) (name : List ℕ) (s : Slot) → next_slot name (slot_down_to (suc n) s) ≡ slot_down_to n (next_slot name s)
unfolding down_to
next-slot n name free = refl
next-slot n name blocked = refl
next-slot n name (taken (document fs)) =
    ap (λ t. next_slot name (taken t)) (fields-opened n fs)
    ∙ ap (λ gs. slot_of (value_under name gs)) (fields_again (fields_down_to n (list_of_fields fs)))
    ∙ ap slot_of (value-marked n name (list_of_fields fs))
    ∙ slot-of n (value_under name (list_of_fields fs))
next-slot n name (taken (array vs)) =
    ap (λ t. next_slot name (taken t)) (elements-opened n vs)
    ∙ ap (element_slot (index_of name)) (elements_again (map (down_to n) (list_of_elements vs)))
    ∙ element-slot n (index_of name) (list_of_elements vs)
next-slot n name (taken v) = refl

pub slot-marked : (m : ℕ) (names : Path) (s : Slot) → slot_behind names (slot_down_to (below names m) s) ≡ slot_down_to m (slot_behind names s)
slot-marked m [] s = refl
slot-marked m (name ∷ names) s = ap (slot_behind names) (next-slot (below names m) name s) ∙ slot-marked m names (next_slot name s)

-- ---- lengths

pub length-field : (name : List ℕ) (v : Tree) (fs : Fields) → length (fields_spelling (field name v fs)) ≡ length name + length (payload v) + 2 + length (fields_spelling fs)
unfolding payload
length-field name v fs = omega (arith, length-append (element_spelling (kind_of v) name (payload v)) (fields_spelling fs), length-element_spelling (kind_of v) name (payload v))

pub length-item : (i : ℕ) (v : Tree) (vs : Elements) → length (elements_spelling i (element v vs)) ≡ length (decimal i) + length (payload v) + 2 + length (elements_spelling (suc i) vs)
unfolding payload
length-item i v vs = omega (arith, length-append (element_spelling (kind_of v) (decimal i) (payload v)) (elements_spelling (suc i) vs), length-element_spelling (kind_of v) (decimal i) (payload v))

one-piece-length : (v : Tree) → length (payload (in_one_piece v)) ≡ length (payload v)
one-piece-length (document fs) =
    omega (arith, length_binary 0 (replicate (length (payload (document fs)) - 5) 0), length-replicate (length (payload (document fs)) - 5) (let z : ℕ = 0 in z), length-document fs)
one-piece-length v = refl

module _ (n : ℕ) (same : (v : Tree) → length (payload (down_to n v)) ≡ length (payload v)) where
  fields-length : (fs : Fields) → length (fields_spelling (fields_of (fields_down_to n (list_of_fields fs)))) ≡ length (fields_spelling fs)
  unfolding fields_down_to
  fields-length no_fields = refl
  fields-length (field name v fs) =
      omega (arith, length-field name v fs, length-field name (down_to n v) (fields_of (fields_down_to n (list_of_fields fs))), same v, fields-length fs)

  items-length : (i : ℕ) (vs : Elements) → length (elements_spelling i (elements_of (map (down_to n) (list_of_elements vs)))) ≡ length (elements_spelling i vs)
  items-length i no_elements = refl
  items-length i (element v vs) =
      omega (arith, length-item i v vs, length-item i (down_to n v) (elements_of (map (down_to n) (list_of_elements vs))), same v, items-length (suc i) vs)

pub length-marked : (n : ℕ) (v : Tree) → length (payload (down_to n v)) ≡ length (payload v)
unfolding down_to
length-marked zero v = one-piece-length v
length-marked (suc n) (document fs) =
    ap (λ t. length (payload t)) (fields-opened n fs)
    ∙ omega (arith, length-document fs, length-document (fields_of (fields_down_to n (list_of_fields fs))), fields-length n (length-marked n) fs)
length-marked (suc n) (array vs) =
    ap (λ t. length (payload t)) (elements-opened n vs)
    ∙ omega (arith, length-array vs, length-array (elements_of (map (down_to n) (list_of_elements vs))), items-length n (length-marked n) 0 vs)
length-marked (suc n) v = refl

-- ---- levels

module _ (n : ℕ) (same : (v : Tree) → levels v < n → down_to n v ≡ v) where
  fields-stay : (fs : Fields) → fields_levels fs < n → fields_of (fields_down_to n (list_of_fields fs)) ≡ fs
  unfolding fields_down_to
  fields-stay no_fields h = refl
  fields-stay (field name v fs) h = ap₂ (field name) (same v (omega arith)) (fields-stay fs (omega arith))

  items-stay : (vs : Elements) → elements_levels vs < n → elements_of (map (down_to n) (list_of_elements vs)) ≡ vs
  items-stay no_elements h = refl
  items-stay (element v vs) h = ap₂ element (same v (omega arith)) (items-stay vs (omega arith))

pub stays-shallow : (n : ℕ) (v : Tree) → levels v < n → down_to n v ≡ v
unfolding down_to
stays-shallow zero v h = absurd (omega arith)
stays-shallow (suc n) (document fs) h = fields-opened n fs ∙ ap document (fields-stay n (stays-shallow n) fs (omega arith))
stays-shallow (suc n) (array vs) h = elements-opened n vs ∙ ap array (items-stay n (stays-shallow n) vs (omega arith))
stays-shallow (suc n) v h = refl

module _ (n : ℕ) (same : (v : Tree) → levels (down_to n v) < n → down_to n v ≡ v) where
  fields-were : (fs : Fields) → fields_levels (fields_of (fields_down_to n (list_of_fields fs))) < n → fields_of (fields_down_to n (list_of_fields fs)) ≡ fs
  unfolding fields_down_to
  fields-were no_fields h = refl
  fields-were (field name v fs) h = ap₂ (field name) (same v (omega arith)) (fields-were fs (omega arith))

  items-were : (vs : Elements) → elements_levels (elements_of (map (down_to n) (list_of_elements vs))) < n → elements_of (map (down_to n) (list_of_elements vs)) ≡ vs
  items-were no_elements h = refl
  items-were (element v vs) h = ap₂ element (same v (omega arith)) (items-were vs (omega arith))

pub was-shallow : (n : ℕ) (v : Tree) → levels (down_to n v) < n → down_to n v ≡ v
unfolding down_to
was-shallow zero v h = absurd (omega arith)
was-shallow (suc n) (document fs) h =
    let inside : suc (fields_levels (fields_of (fields_down_to n (list_of_fields fs)))) < suc n = subst (λ t. levels t < suc n) (fields-opened n fs) h in
    fields-opened n fs ∙ ap document (fields-were n (was-shallow n) fs (omega arith))
was-shallow (suc n) (array vs) h =
    let inside : suc (elements_levels (elements_of (map (down_to n) (list_of_elements vs)))) < suc n = subst (λ t. levels t < suc n) (elements-opened n vs) h in
    elements-opened n vs ∙ ap array (items-were n (was-shallow n) vs (omega arith))
was-shallow (suc n) v h = refl

-- values that are the same down to a level are equal if one of them isn't that deep
pub equal-shallow : (n : ℕ) (v w : Tree) → down_to n v ≡ down_to n w → levels w < n → v ≡ w
equal-shallow n v w alike h =
    let here : down_to n w ≡ w = stays-shallow n w h in
    let there : down_to n v ≡ w = alike ∙ here in
    let less : levels (down_to n v) < n = subst (λ t. levels t < n) (sym there) h in
    sym (was-shallow n v less) ∙ there
