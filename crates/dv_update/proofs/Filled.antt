-- Where paths lead beyond the ends of arrays, step by step.
use Rattle.std.proofs.Common.{◌≡◌, ◌∙◌, ap, sym, refl, ℕ, ◌-◌, ◌≤◌, ◌<◌, ◌||◌, not, nat_le, Bool, true, false, List, [], ◌∷◌, ◌++◌, take, length, length-append, Option, Some, None, is_some, slice_get, arith, if◌then◌else◌}
use Rattle.std.proofs.Math.Seq.{take-append_seam}
use Rattle.std.specs.Option.{option_map, unwrap_or}
use Rattle.std.proofs.lemmas.Bool.Decides.{nat_tests}
use Rattle.std.proofs.lemmas.Bool.{and_parts}
use Rattle.dv_value.specs.declared.value.Value.{Value}
use Rattle.dv_value.specs.declared.value.Value.TheVariants as values
use Rattle.dv_value.specs.Names.{value_under}
use Rattle.dv_value.specs.Tree.{Tree, document, array, Field, fields_of, list_of_fields, Elements, elements_of, list_of_elements}
use Rattle.dv_value.specs.View.{tree}
use Rattle.dv_value.specs.Inner.TreeLaws.{elements_again, fields_again}
use Rattle.dv_candidates.specs.Path.{index_of}
use Rattle.dv_path.specs.Slots.{Slot, taken, slot_of, next_slot, slot_behind, slot}
use Rattle.dv_update.specs.Apply.{Path}
use Rattle.dv_update.specs.Inner.Filling.{Fill, beyond, beyond_array, beyond_element, leads_into_id, filled, fill_of, left_out, array_of, place_of, first_number}
use Rattle.dv_update.specs.Inner.StandIn.{new_value}
use Rattle.dv_update.specs.Update.{Edit}
use Rattle.dv_update.proofs.Putting.{IsArray}

pub plain-value : (path : Path) (v : Value) → ((d : List Field) → v ≡ values.Doc d → ⊥) → ((vs : List Tree) → v ≡ values.Array vs → ⊥) → None ≡ beyond path (Some (tree v))
plain-value [] v h g = refl
plain-value (name ∷ names) (values.Doc d) h g = absurd (h d refl)
plain-value (name ∷ names) (values.Array vs) h g = absurd (g vs refl)
plain-value (name ∷ names) v h g = refl

pub none-missing : (names : Path) (c : Option Tree) → None ≡ c → None ≡ beyond names c
none-missing [] c e = refl
none-missing (name ∷ names) None e = refl
none-missing (name ∷ names) (Some v) e = absurd cc

pub in-document : (name : List ℕ) (names : Path) (d : List Field) → beyond (name ∷ names) (Some (document (fields_of d))) ≡ beyond names (value_under name d)
in-document name names d = ap (λ fs. beyond names (value_under name fs)) (fields_again d)

pub in-array : (name : List ℕ) (names : Path) (vs : List Tree) → beyond (name ∷ names) (Some (array (elements_of vs))) ≡ beyond_array (beyond names) (name ∷ names) (index_of name) vs
in-array name names vs = ap (beyond_array (beyond names) (name ∷ names) (index_of name)) (elements_again vs)

-- a place in an array
module _ (names : Path) (name : List ℕ) (vs : List Tree) (place : ℕ) (index : Some place ≡ index_of name) where
  abbrev found : Option Path
  found = beyond_array (beyond names) (name ∷ names) (index_of name) vs

  pub at-element : (v : Tree) → slice_get vs place ≡ Some v → beyond names (Some v) ≡ found
  at-element v there = rw (← index, there) refl

  pub at-end : slice_get vs place ≡ None → place ≤ 100000 → Some (name ∷ names) ≡ found
  at-end none near = let le : nat_le place 100000 ≡ true = grind (arith, nat_tests, near) in rw (← index, none, le) refl

  pub too-far : slice_get vs place ≡ None → 100000 < place → None ≡ found
  too-far none far = let le : nat_le place 100000 ≡ false = grind (arith, nat_tests, far) in rw (← index, none, le) refl

-- ---- the place of a fill

-- a path leads to an array and beyond its end
pub record LeadsBeyond (path rest : Path) (s : Slot) : Type 0 where
  pub way : Path
  pub name : List ℕ
  pub names : Path
  pub place : ℕ
  pub elements : Elements
  pub whole : path ≡ way ++ rest
  pub first : rest ≡ name ∷ names
  pub at : index_of name ≡ Some place
  pub there : slot_behind way s ≡ taken (array elements)

one-further : (name : List ℕ) {path rest : Path} {s t : Slot} → LeadsBeyond path rest s → next_slot name t ≡ s → LeadsBeyond (name ∷ path) rest t
one-further name l step = record {
  way = name ∷ l.way;
  name = l.name;
  names = l.names;
  place = l.place;
  elements = l.elements;
  whole = ap (λ ps. name ∷ ps) l.whole;
  first = l.first;
  at = l.at;
  there = ap (slot_behind l.way) step ∙ l.there;
}

leads-beyond : (path rest : Path) (c : Option Tree) → beyond path c ≡ Some rest → LeadsBeyond path rest (slot_of c)
leads-beyond [] rest c e = absurd cc
leads-beyond (name ∷ names) rest None e = absurd cc
leads-beyond (name ∷ names) rest (Some (document fs)) e = one-further name (leads-beyond names rest (value_under name (list_of_fields fs)) e) refl
leads-beyond (name ∷ names) rest (Some (array vs)) e = by (index_of name) refl e (leads-beyond names rest)
  where
    Further : Type 0
    Further = (c : Option Tree) → beyond names c ≡ Some rest → LeadsBeyond names rest (slot_of c)

    near : (place : ℕ) (b : Bool) → index_of name ≡ Some place → (if b then Some (name ∷ names) else None) ≡ Some rest → LeadsBeyond (name ∷ names) rest (taken (array vs))
    near place false is e = absurd cc
    near place true is e =
        let same : name ∷ names ≡ rest = cc in
        record { way = []; name = name; names = names; place = place; elements = vs; whole = same; first = sym same; at = is; there = refl }

    at-place : (place : ℕ) (c : Option Tree) → index_of name ≡ Some place → slice_get (list_of_elements vs) place ≡ c → beyond_element (beyond names) (name ∷ names) place c ≡ Some rest → Further → LeadsBeyond (name ∷ names) rest (taken (array vs))
    at-place place None is there e further = near place (nat_le place 100000) is e
    at-place place (Some v) is there e further = one-further name (further (Some v) e) (rw is (ap slot_of there))

    by : (o : Option ℕ) → index_of name ≡ o → beyond_array (beyond names) (name ∷ names) o (list_of_elements vs) ≡ Some rest → Further → LeadsBeyond (name ∷ names) rest (taken (array vs))
    by None is e further = absurd cc
    by (Some place) is e further = at-place place (slice_get (list_of_elements vs) place) is refl e further
leads-beyond (name ∷ names) rest (Some v) e = absurd cc

-- an edit that fills an array of a document
pub record Fills (d : List Field) (e : Edit) (f : Fill) : Type 0 where
  pub new : is_some (new_value e.1) ≡ true
  pub path : f.0 ≡ e.0
  pub leads : beyond e.0 (Some (document (fields_of d))) ≡ Some f.1

pub fills-so : (d : List Field) (e : Edit) (f : Fill) → fill_of d e ≡ Some f → Fills d e f
fills-so d e f is = by (is_some (new_value e.1)) (beyond e.0 (Some (document (fields_of d)))) refl refl is
  where
    by : (new : Bool) (o : Option Path) → is_some (new_value e.1) ≡ new → beyond e.0 (Some (document (fields_of d))) ≡ o → (if new then option_map (filled e.0) o else None) ≡ Some f → Fills d e f
    by false o n l is = absurd cc
    by true None n l is = absurd cc
    by true (Some rest) n l is =
        let same : filled e.0 rest ≡ f = cc in
        record { new = n; path = ap (λ (g : Fill). g.0) (sym same); leads = l ∙ ap (λ (g : Fill). Some g.1) same }

pub some-fill : (d : List Field) (e : Edit) → is_some (fill_of d e) ≡ true → (f : Fill) × Fills d e f
some-fill d e is = by (fill_of d e) refl is
  where
    by : (o : Option Fill) → fill_of d e ≡ o → is_some o ≡ true → (f : Fill) × Fills d e f
    by None found h = absurd cc
    by (Some f) found h = (f, fills-so d e f found)

-- an edit that is left out
pub left-out : (with_id : Bool) (d : List Field) (e : Edit) → left_out with_id d e ≡ true → (f : Fill) × Fills d e f × (with_id ≡ false → leads_into_id e.0 ≡ false)
left-out with_id d e is =
    let found = some-fill d e (and_parts _ _ is).0 in
    (found.0, found.1, λ kept. not-true (leads_into_id e.0) (ap (λ b. b || not (leads_into_id e.0)) (sym kept) ∙ (and_parts _ _ is).1))
  where
    not-true : (b : Bool) → not b ≡ true → b ≡ false
    not-true true h = cc
    not-true false h = refl

-- the array to which the fill leads
pub record HasArray (d : List Field) (e : Edit) (f : Fill) : Type 0 where
  pub name : List ℕ
  pub names : Path
  pub whole : e.0 ≡ array_of f ++ name ∷ names
  pub at : index_of name ≡ Some (place_of f)
  pub there : IsArray (slot d (array_of f)) 0

way-is : (path whole way rest : Path) → path ≡ whole → whole ≡ way ++ rest → take (length path - length rest) path ≡ way
way-is path whole way rest same is =
    let here : path ≡ way ++ rest = same ∙ is in
    let count : length path - length rest ≡ length way = omega (arith, ap length here, length-append way rest) in
    ap (λ n. take n path) count ∙ ap (take (length way)) here ∙ take-append_seam way rest

pub has-array : (d : List Field) (e : Edit) (f : Fill) → Fills d e f → HasArray d e f
unfolding slot
has-array d e f fills =
    let l = leads-beyond e.0 f.1 (Some (document (fields_of d))) fills.leads in
    let way : array_of f ≡ l.way = way-is f.0 e.0 l.way f.1 fills.path l.whole in
    record {
      name = l.name;
      names = l.names;
      whole = l.whole ∙ ap (λ ps. l.way ++ ps) l.first ∙ ap (λ ps. ps ++ l.name ∷ l.names) (sym way);
      at = l.at ∙ ap Some (sym (ap first_number l.first ∙ ap (λ o. unwrap_or o 0) l.at));
      there = (l.elements, ap (λ ps. slot_behind ps (taken (document (fields_of d)))) way ∙ l.there, omega arith);
    }
