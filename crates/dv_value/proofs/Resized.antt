-- The length of a document's encoding when one of its fields changes.
use Rattle.std.proofs.Common.{◌≡◌, ℕ, zero, suc, ◌+◌, ◌≤◌, false, List, [], ◌∷◌, ◌++◌, length, decimal, Option, Some, None, IfSome, max, refl, sym, ap, subst, ◌∙◌, arith}
use Rattle.std.specs.List.{slice_get, position_from}
use Rattle.std.specs.Str.{IsUtf8, bytes_eq}
use Rattle.std.proofs.lemmas.List.Elements.{All-append, All-cons, All-nil}
use Rattle.dv_value.specs.FieldChange.{with_value_pushed}
use Rattle.dv_value.specs.Measure.{IsMeasure}
use Rattle.dv_value.specs.Names.{has_name, has_zero, place_under, value_under}
use Rattle.dv_value.specs.Inner.Put.{with_value_at}
use Rattle.dv_value.specs.Inner.Spelled.{length-array, elements_spelling-nil}
use Rattle.dv_value.specs.Spelling.{payload, spelling, elements_spelling, levels, fields_levels, elements_levels, IsValue, AreFields, AreElements}
use Rattle.dv_value.specs.Tree.{Tree, array, Field, fields_of, elements_of}
use Rattle.dv_value.specs.Inner.TreeLaws.{fields_again, elements_again}
use Rattle.dv_value.proofs.Changed.{found_behind, with_value_at-found}
use Rattle.dv_value.proofs.Moved.{length-field, each_valid, all_valid}
use Rattle.dv_value.proofs.Named.{AreNamed-push}
use Rattle.dv_value.proofs.Rest.{elements_length-element}

-- ---- levels

levels-at : (v : Tree) (place : ℕ) (fs : List Field) → fields_levels (fields_of (with_value_at place v fs)) ≤ max (levels v) (fields_levels (fields_of fs))
levels-at v place [] = omega arith
levels-at v zero (f ∷ fs) = omega arith
levels-at v (suc place) (f ∷ fs) = omega (arith, levels-at v place fs)

levels-more : (fs : List Field) (f : Field) → fields_levels (fields_of (fs ++ f ∷ [])) ≤ max (levels f.1) (fields_levels (fields_of fs))
levels-more [] f = omega arith
levels-more (g ∷ fs) f = omega (arith, levels-more fs f)

levels-there : (place : ℕ) (fs : List Field) (f : Field) → slice_get fs place ≡ Some f → levels f.1 ≤ fields_levels (fields_of fs)
levels-there place [] f here = absurd cc
levels-there zero (g ∷ fs) f here =
    let same : levels g.1 ≡ levels f.1 = let e : g ≡ f = cc in ap (λ (h : Field). levels h.1) e in
    omega (arith, same)
levels-there (suc place) (g ∷ fs) f here = omega (arith, levels-there place fs f here)

levels-pushed : (vs : List Tree) (v : Tree) → elements_levels (elements_of (vs ++ v ∷ [])) ≤ max (levels v) (elements_levels (elements_of vs))
levels-pushed [] v = omega arith
levels-pushed (w ∷ vs) v = omega (arith, levels-pushed vs v)

-- ---- a value in place of another one

length-at : (v : Tree) (place : ℕ) (fs : List Field) (f : Field) → slice_get fs place ≡ Some f → length (spelling (with_value_at place v fs)) + length (payload f.1) ≡ length (spelling fs) + length (payload v)
length-at v place [] f here = absurd cc
length-at v zero (g ∷ fs) f here =
    let same : length (payload g.1) ≡ length (payload f.1) = let e : g ≡ f = cc in ap (λ (h : Field). length (payload h.1)) e in
    omega (arith, same, length-field g fs, length-field (g.0, v) fs)
length-at v (suc place) (g ∷ fs) f here = omega (arith, length-at v place fs f here, length-field g fs, length-field g (with_value_at place v fs))

pub payload-within : (place : ℕ) (fs : List Field) (f : Field) → slice_get fs place ≡ Some f → length (payload f.1) ≤ length (spelling fs)
payload-within place [] f here = absurd cc
payload-within zero (g ∷ fs) f here =
    let same : length (payload g.1) ≡ length (payload f.1) = let e : g ≡ f = cc in ap (λ (h : Field). length (payload h.1)) e in
    omega (arith, same, length-field g fs)
payload-within (suc place) (g ∷ fs) f here = omega (arith, payload-within place fs f here, length-field g fs)

has_name-at : (n : List ℕ) (v : Tree) (place : ℕ) (fs : List Field) → has_name n (with_value_at place v fs) ≡ has_name n fs
has_name-at n v place [] = refl
has_name-at n v zero (f ∷ fs) = refl
has_name-at n v (suc place) (f ∷ fs) = rw (has_name-at n v place fs) refl

valid-at : (v : Tree) (place : ℕ) (fs : List Field) → IsValue v → AreFields (fields_of fs) → AreFields (fields_of (with_value_at place v fs))
valid-at v place [] value valid = tt
valid-at v zero (f ∷ fs) value valid = (valid.0, valid.1, valid.2, value, valid.4)
valid-at v (suc place) (f ∷ fs) value valid =
    let apart : has_name f.0 fs ≡ false = rw (fields_again fs) at valid.2 in
    let still : has_name f.0 (with_value_at place v fs) ≡ false = has_name-at f.0 v place fs ∙ apart in
    (valid.0, valid.1, rw (fields_again (with_value_at place v fs)) still, valid.3, valid-at v place fs value valid.4)

measured-at : (v : Tree) (place : ℕ) (fs : List Field) (f : Field) (size after : ℕ) → slice_get fs place ≡ Some f → IsMeasure size fs → IsValue v → levels v + 1 ≤ 100 → after + length (payload f.1) ≡ size + length (payload v) → after ≤ 2147483647
    → IsMeasure after (with_value_at place v fs)
measured-at v place fs f size after here measure value depth sum within = record {
  whole = omega (arith, sum, measure.whole, length-at v place fs f here);
  within = within;
  valid = valid-at v place fs value measure.valid;
  depth = omega (arith, depth, measure.depth, levels-at v place fs);
}

-- the same, if the new length is known
pub measured-with : (v : Tree) (place : ℕ) (fs : List Field) (f : Field) (size : ℕ) (result : Option ℕ) → slice_get fs place ≡ Some f → IsMeasure size fs → IfSome result (λ _. IsValue v) → IfSome result (λ _. levels v + 1 ≤ 100) → IfSome result (λ after. after + length (payload f.1) ≡ size + length (payload v)) → IfSome result (λ after. after ≤ 2147483647)
    → IfSome result (λ after. IsMeasure after (with_value_at place v fs))
measured-with v place fs f size None here measure value depth sum within = tt
measured-with v place fs f size (Some after) here measure value depth sum within = measured-at v place fs f size after here measure value depth sum within

-- ---- one more field

length-more : (fs : List Field) (f : Field) → length (spelling (fs ++ f ∷ [])) ≡ length (spelling fs) + (length (payload f.1) + length f.0 + 2)
length-more [] f = omega (arith, length-field f [])
length-more (g ∷ fs) f = omega (arith, length-more fs f, length-field g fs, length-field g (fs ++ f ∷ []))

valid-more : (fs : List Field) (f : Field) → IsUtf8 f.0 → has_zero f.0 ≡ false → has_name f.0 fs ≡ false → IsValue f.1 → AreFields (fields_of fs) → AreFields (fields_of (fs ++ f ∷ []))
valid-more fs f text whole fresh value valid =
    let each = each_valid fs valid in
    let P : Field → Type 0 = λ g. IsUtf8 g.0 × IsValue g.1 in
    all_valid (fs ++ f ∷ []) (All-append P fs (f ∷ []) each.0 (All-cons P f [] (text, value) (All-nil P)), AreNamed-push fs f each.1 whole fresh)

pub measured-more : (fs : List Field) (f : Field) (size after : ℕ) → IsMeasure size fs → IsUtf8 f.0 → has_zero f.0 ≡ false → has_name f.0 fs ≡ false → IsValue f.1 → levels f.1 + 1 ≤ 100 → after ≡ size + (length (payload f.1) + length f.0 + 2) → after ≤ 2147483647
    → IsMeasure after (fs ++ f ∷ [])
measured-more fs f size after measure text whole fresh value depth sum within = record {
  whole = omega (arith, sum, measure.whole, length-more fs f);
  within = within;
  valid = valid-more fs f text whole fresh value measure.valid;
  depth = omega (arith, depth, measure.depth, levels-more fs f);
}

-- ---- one more element

length-pushed : (i : ℕ) (vs : List Tree) (v : Tree) → length (elements_spelling i (elements_of (vs ++ v ∷ []))) ≡ length (elements_spelling i (elements_of vs)) + (length (payload v) + length (decimal (i + length vs)) + 2)
length-pushed i [] v =
    let none : i + 0 ≡ i = omega arith in
    rw none (omega (arith, elements_length-element i v [], ap length (elements_spelling-nil i [] refl), ap length (elements_spelling-nil (suc i) [] refl)))
length-pushed i (w ∷ vs) v =
    let next : i + length (w ∷ vs) ≡ suc i + length vs = omega arith in
    rw next (omega (arith, length-pushed (suc i) vs v, elements_length-element i w vs, elements_length-element i w (vs ++ v ∷ [])))

valid-pushed : (vs : List Tree) (v : Tree) → IsValue v → AreElements (elements_of vs) → AreElements (elements_of (vs ++ v ∷ []))
valid-pushed [] v value valid = (value, tt)
valid-pushed (w ∷ vs) v value valid = (valid.0, valid-pushed vs v value valid.1)

valid-there : (place : ℕ) (fs : List Field) (f : Field) → slice_get fs place ≡ Some f → AreFields (fields_of fs) → IsValue f.1
valid-there place [] f here valid = absurd cc
valid-there zero (g ∷ fs) f here valid = let e : g ≡ f = cc in subst (λ (h : Field). IsValue h.1) e valid.3
valid-there (suc place) (g ∷ fs) f here valid = valid-there place fs f here valid.4

there-from : (name : List ℕ) (i j k : ℕ) (fs : List Field) (f : Field) → k ≡ i + j → position_from (λ f. bytes_eq name f.0) i fs ≡ Some k → slice_get fs j ≡ Some f → value_under name fs ≡ Some f.1
there-from name i j k [] f at found here = absurd cc
there-from name i zero k (g ∷ fs) f at found here = grind (arith, found_behind name (i + 1) k fs)
there-from name i (suc j) k (g ∷ fs) f at found here = grind (arith, there-from name (i + 1) j k fs f)

module _ (name : List ℕ) (v : Tree) (place : ℕ) (fs : List Field) (f : Field) (vs : List Tree) (found : Some place ≡ place_under name fs) (here : slice_get fs place ≡ Some f) (is : f.1 ≡ array (elements_of vs)) where
  pushed-at : with_value_at place (array (elements_of (vs ++ v ∷ []))) fs ≡ with_value_pushed name v fs
  pushed-at =
      let under : value_under name fs ≡ Some (array (elements_of vs)) = there-from name 0 place place fs f (omega arith) (sym found) here ∙ ap Some is in
      rw (under, elements_again vs) (with_value_at-found name (array (elements_of (vs ++ v ∷ []))) place fs found)

  pub measured-pushed : (size after : ℕ) → IsMeasure size fs → IsValue v → levels v + 2 ≤ 100 → after ≡ size + (length (payload v) + length (decimal (length vs)) + 2) → after ≤ 2147483647 → IsMeasure after (with_value_pushed name v fs)
  measured-pushed size after measure value depth sum within =
      let before : IsValue (array (elements_of vs)) = subst IsValue is (valid-there place fs f here measure.valid) in
      let longer : length (payload (array (elements_of (vs ++ v ∷ [])))) ≡ length (payload f.1) + (length (payload v) + length (decimal (length vs)) + 2) =
      let first : 0 + length vs ≡ length vs = omega arith in
      omega (arith, ap (λ (t : Tree). length (payload t)) is, length-array (elements_of vs), length-array (elements_of (vs ++ v ∷ [])), rw first at (length-pushed 0 vs v)) in
      let shallow : levels (array (elements_of (vs ++ v ∷ []))) + 1 ≤ 100 =
      omega (arith, depth, measure.depth, ap levels is, levels-there place fs f here, levels-pushed vs v) in
      subst (IsMeasure after) pushed-at (measured-at (array (elements_of (vs ++ v ∷ []))) place fs f size after here measure (valid-pushed vs v value before) shallow (omega (arith, sum, longer)) within)
