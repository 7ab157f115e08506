-- Names and values as the fields of a document. There may be further names after that of the last value.
use Rattle.std.proofs.Common.{◌≡◌, ℕ, zero, suc, ◌+◌, ◌≤◌, ◌<◌, true, false, ◌||◌, cond, ltb, List, [], ◌∷◌, ◌++◌, length, take, drop, map, Option, Some, None, refl, sym, ap, subst, ◌∙◌, arith}
use Rattle.std.specs.Prelude.{if◌then◌else◌, nat_lt}
use Rattle.std.specs.List.{zip, slice_get, position_from}
use Rattle.std.specs.Str.{bytes_eq}
use Rattle.std.proofs.lemmas.Bool.{lt-ltb, le-ltb}
use Rattle.std.proofs.lemmas.List.{length_push, length-take-le, take-append-drop, take_more, map-append}
use Rattle.std.proofs.lemmas.Option.{slice_get_within, slice_get_past, get_or_from_slice_get}
use Rattle.std.proofs.lemmas.Slice.Zip.{length-zip}
use Rattle.dv_value.specs.Tree.{Tree, Field}
use Rattle.dv_value.specs.Names.{bare, AreNamed, has_name, place_under, with_values}
use Rattle.dv_value.specs.Inner.ListLaws.{drop_item}
use Rattle.dv_value.specs.Inner.NameLaws.{named_apart}

abbrev Texts : Type 0
Texts = List (List ℕ)

pub zip-none : (ns : Texts) (vs : List Tree) → vs ≡ [] → zip ns vs ≡ []
zip-none [] [] none = refl
zip-none (n ∷ ns) [] none = refl
zip-none ns (v ∷ vs) none = absurd cc

-- ---- a field

abbrev pub paired : Option (List ℕ) → Option Tree → Option Field
paired (Some n) (Some v) = Some (n, v)
paired (Some n) None = None
paired None v = None

pub slice_get-zip : (ns : Texts) (vs : List Tree) (place : ℕ) → slice_get (zip ns vs) place ≡ paired (slice_get ns place) (slice_get vs place)
slice_get-zip [] vs place = refl
slice_get-zip (n ∷ ns) [] zero = refl
slice_get-zip (n ∷ ns) [] (suc place) = elim (slice_get ns place) as (λ o. None ≡ paired o None) [ None ↦ refl | Some m ↦ refl ]
slice_get-zip (n ∷ ns) (v ∷ vs) zero = refl
slice_get-zip (n ∷ ns) (v ∷ vs) (suc place) = slice_get-zip ns vs place

pub zip_past : (ns : Texts) (vs : List Tree) (place : ℕ) → length vs ≤ place → slice_get (zip ns vs) place ≡ None
zip_past ns vs place past = slice_get_past (zip ns vs) place (omega (arith, length-zip ns vs))

-- ---- one more field

-- a name that is there already
pub take_next : (ns : Texts) (count : ℕ) (name : List ℕ) → slice_get ns count ≡ Some name → take (count + 1) ns ≡ take count ns ++ name ∷ []
take_next ns count name here =
    take_more ns count name (slice_get_within ns count name here) ∙ ap (λ n. take count ns ++ n ∷ []) (get_or_from_slice_get ns count name name here)

-- only as many names as there are values count
pub zip-take : (ns : Texts) (vs : List Tree) → zip (take (length vs) ns) vs ≡ zip ns vs
zip-take [] [] = refl
zip-take [] (v ∷ vs) = refl
zip-take (n ∷ ns) [] = refl
zip-take (n ∷ ns) (v ∷ vs) = ap (λ (fs : List Field). (n, v) ∷ fs) (zip-take ns vs)

zip-push : (ns : Texts) (vs : List Tree) (n : List ℕ) (v : Tree) → length ns ≡ length vs → zip (ns ++ n ∷ []) (vs ++ v ∷ []) ≡ zip ns vs ++ (n, v) ∷ []
zip-push [] [] n v e = refl
zip-push [] (w ∷ vs) n v e = absurd (omega arith)
zip-push (m ∷ ns) [] n v e = absurd (omega arith)
zip-push (m ∷ ns) (w ∷ vs) n v e = ap (λ (fs : List Field). (m, w) ∷ fs) (zip-push ns vs n v (omega arith))

pub zip-more : (ns ms : Texts) (vs : List Tree) (n : List ℕ) (v : Tree) → length vs ≤ length ns → take (length vs + 1) ms ≡ take (length vs) ns ++ n ∷ [] → zip ms (vs ++ v ∷ []) ≡ zip ns vs ++ (n, v) ∷ []
zip-more ns ms vs n v le e =
    let front : take (length (vs ++ v ∷ [])) ms ≡ take (length vs) ns ++ n ∷ [] = ap (λ k. take k ms) (length_push vs v) ∙ e in
    sym (zip-take ms (vs ++ v ∷ [])) ∙ ap (λ (names : Texts). zip names (vs ++ v ∷ [])) front
    ∙ zip-push (take (length vs) ns) vs n v (length-take-le (length vs) ns le) ∙ ap (λ (fs : List Field). fs ++ (n, v) ∷ []) (zip-take ns vs)

-- the same names as far as there are values
pub zip-same : (ns ms : Texts) (vs : List Tree) → take (length vs) ns ≡ take (length vs) ms → zip ns vs ≡ zip ms vs
zip-same ns ms vs e = sym (zip-take ns vs) ∙ ap (λ (names : Texts). zip names vs) e ∙ zip-take ms vs

-- other values under the same names
pub with_values-zip : (ns : Texts) (ws vs : List Tree) → length vs ≤ length (zip ns ws) → with_values (zip ns ws) vs ≡ zip ns vs
with_values-zip [] ws [] le = refl
with_values-zip [] ws (v ∷ vs) le = refl
with_values-zip (n ∷ ns) [] [] le = refl
with_values-zip (n ∷ ns) (w ∷ ws) [] le = refl
with_values-zip (n ∷ ns) [] (v ∷ vs) le = absurd (omega arith)
with_values-zip (n ∷ ns) (w ∷ ws) (v ∷ vs) le = ap (λ (fs : List Field). (n, v) ∷ fs) (with_values-zip ns ws vs (omega arith))

-- ---- names

pub has_name-zip : (name : List ℕ) (ns : Texts) (vs : List Tree) → length vs ≤ length ns → has_name name (zip ns vs) ≡ has_name name (map bare (take (length vs) ns))
has_name-zip name [] [] le = refl
has_name-zip name [] (v ∷ vs) le = absurd (omega arith)
has_name-zip name (n ∷ ns) [] le = refl
has_name-zip name (n ∷ ns) (v ∷ vs) le = ap (λ b. bytes_eq name n || b) (has_name-zip name ns vs (omega arith))

has_name-none : (name : List ℕ) (ns : Texts) (vs : List Tree) → has_name name (map bare ns) ≡ false → has_name name (zip ns vs) ≡ false
has_name-none name [] vs none = refl
has_name-none name (n ∷ ns) [] none = refl
has_name-none name (n ∷ ns) (v ∷ vs) none = grind (arith, has_name-none name ns vs)

pub AreNamed-zip : (ns : Texts) (vs : List Tree) → AreNamed (map bare ns) → AreNamed (zip ns vs)
AreNamed-zip [] vs named = tt
AreNamed-zip (n ∷ ns) [] named = tt
AreNamed-zip (n ∷ ns) (v ∷ vs) named = (named.0, has_name-none n ns vs named.1, AreNamed-zip ns vs named.2)

-- the name that is next is that of no field
pub next_is_fresh : (name : List ℕ) (ns : Texts) (vs : List Tree) → AreNamed (map bare ns) → slice_get ns (length vs) ≡ Some name → has_name name (zip ns vs) ≡ false
next_is_fresh name ns vs named next =
    let within : length vs < length ns = slice_get_within ns (length vs) name next in
    let front = take (length vs) ns in
    let rest = drop (length vs + 1) ns in
    let split : map bare ns ≡ map bare front ++ bare name ∷ map bare rest = ap (map bare) (sym (take-append-drop (length vs) ns) ∙ ap (λ (left : Texts). front ++ left) (drop_item ns (length vs) name next)) ∙ map-append bare front (name ∷ rest) in
    has_name-zip name ns vs (omega arith) ∙ named_apart (map bare front) (map bare rest) (bare name) (subst AreNamed split named)

-- a place, if it is below n
abbrev pub below : ℕ → Option ℕ → Option ℕ
below n None = None
below n (Some k) = if nat_lt k n then Some k else None

place_from : (name : List ℕ) (i n : ℕ) (ns : Texts) → n ≤ i → below n (position_from (λ f. bytes_eq name f.0) i (map bare ns)) ≡ None
place_from name i n [] le = refl
place_from name i n (m ∷ ns) le =
    let here : ltb i n ≡ false = le-ltb _ _ le in
    let rest = place_from name (i + 1) n ns (omega arith) in
    elim (bytes_eq name m) as (λ b. below n (cond b (Some i) (position_from (λ f. bytes_eq name f.0) (i + 1) (map bare ns))) ≡ None) [ true ↦ rw here refl | false ↦ rest ]

place_zip_from : (name : List ℕ) (i n : ℕ) (ns : Texts) (vs : List Tree) → n ≡ i + length vs → length vs ≤ length ns → position_from (λ f. bytes_eq name f.0) i (zip ns vs) ≡ below n (position_from (λ f. bytes_eq name f.0) i (map bare ns))
place_zip_from name i n [] vs e le = refl
place_zip_from name i n (m ∷ ns) [] e le = sym (place_from name i n (m ∷ ns) (omega arith))
place_zip_from name i n (m ∷ ns) (v ∷ vs) e le =
    let here : ltb i n ≡ true = lt-ltb _ _ (omega arith) in
    let rest = place_zip_from name (i + 1) n ns vs (omega arith) (omega arith) in
    elim (bytes_eq name m) as (λ b. cond b (Some i) (position_from (λ f. bytes_eq name f.0) (i + 1) (zip ns vs)) ≡ below n (cond b (Some i) (position_from (λ f. bytes_eq name f.0) (i + 1) (map bare ns)))) [ true ↦ rw here refl | false ↦ rest ]

-- a field's place is that of its name
pub place_under-zip : (name : List ℕ) (ns : Texts) (vs : List Tree) → length vs ≤ length ns → place_under name (zip ns vs) ≡ below (length vs) (place_under name (map bare ns))
place_under-zip name ns vs le = place_zip_from name 0 (length vs) ns vs (omega arith) le

module _ (name : List ℕ) (ns : Texts) (vs : List Tree) (le : length vs ≤ length ns) where
  pub place_found : (place : ℕ) → Some place ≡ place_under name (map bare ns) → place < length vs → Some place ≡ place_under name (zip ns vs)
  place_found place e within =
      let here : ltb place (length vs) ≡ true = lt-ltb _ _ within in
      sym (place_under-zip name ns vs le ∙ ap (below (length vs)) (sym e) ∙ rw here refl)

  pub place_behind : (place : ℕ) → Some place ≡ place_under name (map bare ns) → length vs ≤ place → None ≡ place_under name (zip ns vs)
  place_behind place e behind =
      let here : ltb place (length vs) ≡ false = le-ltb _ _ behind in
      sym (place_under-zip name ns vs le ∙ ap (below (length vs)) (sym e) ∙ rw here refl)

  pub place_nowhere : None ≡ place_under name (map bare ns) → None ≡ place_under name (zip ns vs)
  place_nowhere e = sym (place_under-zip name ns vs le ∙ ap (below (length vs)) (sym e))
