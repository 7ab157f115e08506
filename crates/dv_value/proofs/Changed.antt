-- Names and values, when one value is put in place of another, or a field is removed.
use Rattle.std.proofs.Common.{◌≡◌, ℕ, zero, suc, ◌+◌, ◌-◌, ◌≤◌, ◌<◌, true, false, List, [], ◌∷◌, ◌++◌, length, take, drop, map, Some, None, is_some, refl, sym, ap, ◌∙◌, arith, add-one}
use Rattle.std.specs.Prelude.{slice_set, slice_index_or, remove}
use Rattle.std.specs.List.{zip, position_from, drop-map}
use Rattle.std.specs.Str.{bytes_eq}
use Rattle.std.proofs.lemmas.Grind.{common_steps}
use Rattle.std.proofs.lemmas.List.{length-map, take-map}
use Rattle.std.proofs.lemmas.Slice.Zip.{length-zip, get_or-zip}
use Rattle.std.proofs.Math.ListN.{get_or-map}
use Rattle.dv_value.specs.declared.value.Value.{Value}
use Rattle.dv_value.specs.Tree.{Tree, Field}
use Rattle.dv_value.specs.Names.{bare, AreNamed, place_under, value_under, with_value_under, without, has_name}
use Rattle.dv_value.specs.Inner.Put.{with_value_at}
use Rattle.dv_value.specs.View.{tree}
use Rattle.dv_value.proofs.Named.{place_within, value_there, is_some-place}
use Rattle.dv_value.proofs.Zipped.{zip-take}

abbrev Texts : Type 0
Texts = List (List ℕ)

-- ---- no field has the name

module _ (name : List ℕ) where
  same_from : (v : Tree) (i : ℕ) (fs : List Field) → position_from (λ f. bytes_eq name f.0) i fs ≡ None → with_value_under name v fs ≡ fs
  same_from v i [] none = refl
  same_from v i (f ∷ fs) none = grind (arith, same_from v (i + 1) fs)

  all_from : (i : ℕ) (fs : List Field) → position_from (λ f. bytes_eq name f.0) i fs ≡ None → without name fs ≡ fs
  all_from i [] none = refl
  all_from i (f ∷ fs) none = grind (arith, all_from (i + 1) fs)

  pub with_value_under-nowhere : (v : Tree) (fs : List Field) → place_under name fs ≡ None → with_value_under name v fs ≡ fs
  with_value_under-nowhere v fs none = same_from v 0 fs none

  pub without-nowhere : (fs : List Field) → place_under name fs ≡ None → without name fs ≡ fs
  without-nowhere fs none = all_from 0 fs none

  pub value_missing : (fs : List Field) → has_name name fs ≡ false → value_under name fs ≡ None
  value_missing [] none = refl
  value_missing (f ∷ fs) none = grind (arith, value_missing fs)

  pub put_missing : (v : Tree) (fs : List Field) → has_name name fs ≡ false → with_value_under name v fs ≡ fs
  put_missing v [] none = refl
  put_missing v (f ∷ fs) none = grind (arith, put_missing v fs)

-- ---- the value at a place

pub zip-at : (v : Tree) (place : ℕ) (ns : Texts) (vs : List Tree) → zip ns (slice_set vs place v) ≡ with_value_at place v (zip ns vs)
zip-at v place [] vs = refl
zip-at v zero (n ∷ ns) [] = refl
zip-at v (suc place) (n ∷ ns) [] = refl
zip-at v zero (n ∷ ns) (w ∷ vs) = refl
zip-at v (suc place) (n ∷ ns) (w ∷ vs) = ap (λ (fs : List Field). (n, w) ∷ fs) (zip-at v place ns vs)

pub length-put : (v : Tree) (place : ℕ) (vs : List Tree) → length (slice_set vs place v) ≡ length vs
length-put v place [] = refl
length-put v zero (w ∷ vs) = refl
length-put v (suc place) (w ∷ vs) = ap suc (length-put v place vs)

around-tree : (v : Tree) (place : ℕ) (vs : List Tree) → place < length vs → (take place vs ++ v ∷ []) ++ drop (place + 1) vs ≡ slice_set vs place v
around-tree v place [] lt = absurd (omega arith)
around-tree v zero (w ∷ vs) lt = refl
around-tree v (suc place) (w ∷ vs) lt = rw add-one (ap (λ (ws : List Tree). w ∷ ws) (rw add-one at (around-tree v place vs (omega arith))))

pub around : (v : Tree) (place : ℕ) (values : List Value) → place < length values → (map tree (take place values) ++ v ∷ []) ++ map tree (drop (place + 1) values) ≡ slice_set (map tree values) place v
around v place values lt = rw (← take-map tree place values, ← drop-map tree (place + 1) values) (around-tree v place (map tree values) (rw length-map lt))

-- ---- the field at a place has the name

module _ (name : List ℕ) where
  pub found_behind : (i k : ℕ) (fs : List Field) → position_from (λ f. bytes_eq name f.0) i fs ≡ Some k → i ≤ k
  found_behind i k [] found = absurd cc
  found_behind i k (f ∷ fs) found = grind (arith, found_behind (i + 1) k fs)

  put_from : (v : Tree) (i j k : ℕ) (ns : Texts) (vs : List Tree) → k ≡ i + j → position_from (λ f. bytes_eq name f.0) i (zip ns vs) ≡ Some k → zip ns (slice_set vs j v) ≡ with_value_under name v (zip ns vs)
  put_from v i j k [] vs at found = absurd cc
  put_from v i j k (n ∷ ns) [] at found = absurd cc
  put_from v i zero k (n ∷ ns) (w ∷ vs) at found = grind (arith, found_behind (i + 1) k (zip ns vs))
  put_from v i (suc j) k (n ∷ ns) (w ∷ vs) at found = grind (arith, put_from v (i + 1) j k ns vs)

  at_from : (v : Tree) (i j k : ℕ) (fs : List Field) → k ≡ i + j → position_from (λ f. bytes_eq name f.0) i fs ≡ Some k → with_value_at j v fs ≡ with_value_under name v fs
  at_from v i j k [] at found = absurd cc
  at_from v i zero k (f ∷ fs) at found = grind (arith, found_behind (i + 1) k fs)
  at_from v i (suc j) k (f ∷ fs) at found = grind (arith, at_from v (i + 1) j k fs)

  without_from : (i j k : ℕ) (ns : Texts) (vs : List Tree) → k ≡ i + j → position_from (λ f. bytes_eq name f.0) i (zip ns vs) ≡ Some k → zip (remove ns j) (remove vs j) ≡ without name (zip ns vs)
  without_from i j k [] vs at found = absurd cc
  without_from i j k (n ∷ ns) [] at found = absurd cc
  without_from i zero k (n ∷ ns) (w ∷ vs) at found = grind (arith, found_behind (i + 1) k (zip ns vs))
  without_from i (suc j) k (n ∷ ns) (w ∷ vs) at found = grind (arith, without_from (i + 1) j k ns vs)

  pub zip-put : (v : Tree) (place : ℕ) (ns : Texts) (vs : List Tree) → place_under name (zip ns vs) ≡ Some place → zip ns (slice_set vs place v) ≡ with_value_under name v (zip ns vs)
  zip-put v place ns vs found = put_from v 0 place place ns vs (omega arith) found

  pub with_value_at-found : (v : Tree) (place : ℕ) (fs : List Field) → Some place ≡ place_under name fs → with_value_at place v fs ≡ with_value_under name v fs
  with_value_at-found v place fs found = at_from v 0 place place fs (omega arith) (sym found)

  pub found_within : (place : ℕ) (fs : List Field) → Some place ≡ place_under name fs → place < length fs
  found_within place fs found = place_within name place fs (sym found)

  pub found_has : (place : ℕ) (fs : List Field) → Some place ≡ place_under name fs → has_name name fs ≡ true
  found_has place fs found = sym (is_some-place name 0 fs) ∙ ap is_some (sym found)

  pub nowhere_has_not : (fs : List Field) → None ≡ place_under name fs → has_name name fs ≡ false
  nowhere_has_not fs none = sym (is_some-place name 0 fs) ∙ ap is_some (sym none)

  -- names without a value are dropped with the one that is removed
  pub zip-without : (place : ℕ) (ns : Texts) (vs : List Tree) → place_under name (zip ns vs) ≡ Some place → zip (remove (take (length vs) ns) place) (remove vs place) ≡ without name (zip ns vs)
  zip-without place ns vs found =
      let same = zip-take ns vs in
      without_from 0 place place (take (length vs) ns) vs (omega arith) (ap (place_under name) same ∙ found) ∙ ap (without name) same

-- ---- values in memory

pub map-remove : (values : List Value) (place : ℕ) → map tree (remove values place) ≡ remove (map tree values) place
map-remove [] zero = refl
map-remove [] (suc place) = refl
map-remove (v ∷ values) zero = refl
map-remove (v ∷ values) (suc place) = ap (λ (ts : List Tree). tree v ∷ ts) (map-remove values place)

module _ (name : List ℕ) (ns : Texts) (values : List Value) (place : ℕ) (found : Some place ≡ place_under name (zip ns (map tree values))) where
  pub place_has_value : place < length values
  place_has_value = omega (arith, place_within name place (zip ns (map tree values)) (sym found), length-zip ns (map tree values), length-map values tree)

  pub value_found : (value : Value) → value ≡ slice_index_or values place value → Some (tree value) ≡ value_under name (zip ns (map tree values))
  value_found value is =
      let none : Field = ([], tree value) in
      let within = place_within name place (zip ns (map tree values)) (sym found) in
      let pair = get_or-zip ns (map tree values) place none (omega (arith, within, length-zip ns (map tree values))) (omega (arith, within, length-zip ns (map tree values))) in
      let there = value_there name place _ none (sym found) ∙ ap (λ (f : Field). Some f.1) pair in
      sym (rw (get_or-map tree values place value, ← is) at there)

-- ---- names

fresh-remove : (n : List ℕ) (place : ℕ) (ns : Texts) → has_name n (map bare ns) ≡ false → has_name n (map bare (remove ns place)) ≡ false
fresh-remove n zero [] fresh = refl
fresh-remove n (suc place) [] fresh = refl
fresh-remove n zero (m ∷ ns) fresh = grind arith
fresh-remove n (suc place) (m ∷ ns) fresh = grind (arith, fresh-remove n place ns)

pub AreNamed-remove : (place : ℕ) (ns : Texts) → AreNamed (map bare ns) → AreNamed (map bare (remove ns place))
AreNamed-remove zero [] named = tt
AreNamed-remove (suc place) [] named = tt
AreNamed-remove zero (n ∷ ns) named = named.2
AreNamed-remove (suc place) (n ∷ ns) named = (named.0, fresh-remove n place ns named.1, AreNamed-remove place ns named.2)

-- the first `count` names except one, as they are copied
front_but : (place count : ℕ) (ns : Texts) → place < count → take place ns ++ take (count - suc place) (drop (suc place) ns) ≡ remove (take count ns) place
front_but place zero ns lt = absurd (omega arith)
front_but zero (suc count) [] lt = grind (arith, common_steps)
front_but (suc place) (suc count) [] lt = grind (arith, common_steps)
front_but zero (suc count) (n ∷ ns) lt = let rest : suc count - 1 ≡ count = omega arith in rw rest refl
front_but (suc place) (suc count) (n ∷ ns) lt =
    let rest : suc count - suc (suc place) ≡ count - suc place = omega arith in
    rw rest (ap (λ (ms : Texts). n ∷ ms) (front_but place count ns (omega arith)))

pub remove_front : (place count : ℕ) (ns : Texts) → place < count → take place ns ++ take (count - (place + 1)) (drop (place + 1) ns) ≡ remove (take count ns) place
remove_front place count ns lt = rw add-one (front_but place count ns lt)

-- ---- laws

pub put_there : (name : List ℕ) (v : Tree) (fs : List Field) → has_name name fs ≡ true → value_under name (with_value_under name v fs) ≡ Some v
put_there name v [] there = absurd cc
put_there name v (f ∷ fs) there = grind (arith, put_there name v fs)

pub put_again : (name : List ℕ) (v w : Tree) (fs : List Field) → with_value_under name v (with_value_under name w fs) ≡ with_value_under name v fs
put_again name v w [] = refl
put_again name v w (f ∷ fs) = grind (arith, put_again name v w fs)

pub names-put : (name : List ℕ) (v : Tree) (fs : List Field) → map (λ f. f.0) (with_value_under name v fs) ≡ map (λ f. f.0) fs
names-put name v [] = refl
names-put name v (f ∷ fs) = grind (arith, names-put name v fs)
