-- A sort by `_id` leaves documents in their order, or reverses it.
use Rattle.std.proofs.Common.{◌≡◌, ◌∙◌, ◌≤◌, ℕ, arith, length, List, [], ◌∷◌, ◌++◌, take, reverse, refl, ap, sym, append-nil, append_assoc, Bool, true, false, cond, ◌&&◌, Option, None, Some, filter, fold, codes, take_all}
use Rattle.std.specs.Prelude.{⊤}
use Rattle.std.specs.List.{AllByRecursion, flat_map}
use Rattle.std.specs.Option.{unwrap_or}
use Rattle.std.specs.Ordering.{is_lt, ordering_reverse}
use Rattle.std.specs.Str.{bytes_eq}
use Rattle.std.specs.declared.cmp.Ordering.TheVariants.{Less}
use Rattle.std.proofs.lemmas.List.{length-reverse, reverse-append}
use Rattle.std.proofs.lemmas.Map.Keys.{sorted_head, sorted_tail}
use Rattle.std.proofs.lemmas.Slice.Eq.{bytes_eq-Decides}
use Rattle.dv_value.specs.Names.{value_under}
use Rattle.dv_value.specs.Tree.{Tree, Field, array, fields_of, list_of_fields}
use Rattle.dv_order.specs.Order.{canon}
use Rattle.dv_order.specs.Key.{value, key_order}
use Rattle.dv_order.specs.Inner.KeyLaws.{key_order_total}
use Rattle.dv_candidates.specs.Candidates.{candidates, whole}
use Rattle.dv_path.specs.declared.direction.Direction.{Direction}
use Rattle.dv_path.specs.declared.direction.Direction.TheVariants.{Ascending, Descending}
use Rattle.dv_path.specs.SortKey.{earliest, sort_keys_of, sort_key, stands_first}
use Rattle.dv_path.specs.SortSpec.{Part}
use Rattle.dv_coll.specs.Collection.{HasId, IsAscending, IsNoArray, id_key}
use Rattle.dv_index.specs.Inner.InDirection.{in_direction}
use Rattle.dv_keyed.specs.Choice.{same_path}
use Rattle.dv_sort.specs.Sorting.{front, placed, stable, stands_before}

abbrev Rows : Type 0
Rows = List (List Field)

-- ---- the key by which `_id` sorts a document
only-key : (direction : Direction) (v : Tree) → IsNoArray v → earliest direction (flat_map sort_keys_of (Some v ∷ [])) ≡ value (canon v)
only-key direction (array vs) h = absurd h
only-key direction v h = refl

sort-key-id : (direction : Direction) (d : List Field) → HasId d → sort_key d (codes "_id" ∷ []) direction ≡ id_key d
unfolding sort_key whole
sort-key-id direction [] h = absurd h
sort-key-id direction (f ∷ fs) h =
    ap (λ b. earliest direction (flat_map sort_keys_of (flat_map (candidates []) (cond b (Some f.1) (value_under (codes "_id") (list_of_fields (fields_of fs))) ∷ [])))) ((bytes_eq-Decides (codes "_id") f.0).1 (sym h.0)) ∙ only-key direction f.1 h.1

-- ---- the first path distinguishes any two documents
abbrev Comes : List Field → List Field → Type 0
Comes d e = key_order (id_key d) (id_key e) ≡ Less

not-back : (d e : List Field) → Comes d e → is_lt (key_order (id_key e) (id_key d)) ≡ false
not-back d e less = ap is_lt (key_order_total.antisymm (id_key e) (id_key d) ∙ ap ordering_reverse less)

abbrev by_id : Direction → List Part → List Part
by_id direction parts = (codes "_id" ∷ [], direction) ∷ parts

module _ (parts : List Part) where
  later-behind : (d e : List Field) → HasId d → HasId e → Comes d e → stands_before (by_id Ascending parts) e d ≡ false
  later-behind d e h g less =
      let first : stands_first Ascending (sort_key e (codes "_id" ∷ []) Ascending) (sort_key d (codes "_id" ∷ []) Ascending) ≡ false =
      (λ i. is_lt (key_order (sort-key-id Ascending e g i) (sort-key-id Ascending d h i))) ∙ not-back d e less in
      let second : stands_first Ascending (sort_key d (codes "_id" ∷ []) Ascending) (sort_key e (codes "_id" ∷ []) Ascending) ≡ true =
      (λ i. is_lt (key_order (sort-key-id Ascending d h i) (sort-key-id Ascending e g i))) ∙ ap is_lt less in
      λ i. cond (first i) true (cond (second i) false (stands_before parts e d))

  later-first : (d e : List Field) → HasId d → HasId e → Comes d e → stands_before (by_id Descending parts) e d ≡ true
  later-first d e h g less =
      let first : stands_first Descending (sort_key e (codes "_id" ∷ []) Descending) (sort_key d (codes "_id" ∷ []) Descending) ≡ true =
      (λ i. is_lt (key_order (sort-key-id Descending d h i) (sort-key-id Descending e g i))) ∙ ap is_lt less in
      λ i. cond (first i) true (cond (stands_first Descending (sort_key d (codes "_id" ∷ []) Descending) (sort_key e (codes "_id" ∷ []) Descending)) false (stands_before parts e d))

  -- ---- ascending, each comes last
  abbrev AreEarlier : Rows → Rows → Type 0
  AreEarlier ys [] = ⊤
  AreEarlier ys (x ∷ xs) = AllByRecursion (λ y. HasId y × Comes y x) ys

  put-last : (x : List Field) (ys : Rows) → HasId x → AllByRecursion (λ y. HasId y × Comes y x) ys → placed (stands_before (by_id Ascending parts)) x ys ≡ ys ++ x ∷ []
  put-last x [] h all = refl
  put-last x (y ∷ ys) h all =
      ap (λ b. cond b (x ∷ y ∷ ys) (y ∷ placed (stands_before (by_id Ascending parts)) x ys)) (later-behind y x all.0.0 h all.0.1) ∙ ap (λ zs. y ∷ zs) (put-last x ys h all.1)

  earlier-still : (x z : List Field) (ys : Rows) → HasId x → Comes x z → AllByRecursion (λ y. HasId y × Comes y x) ys → AllByRecursion (λ y. HasId y × Comes y z) (ys ++ x ∷ [])
  earlier-still x z [] h less all = ((h, less), tt)
  earlier-still x z (y ∷ ys) h less all =
      ((all.0.0, key_order_total.trans (id_key y) (id_key x) (id_key z) all.0.1 less), earlier-still x z ys h less all.1)

  are-earlier : (x : List Field) (ys xs : Rows) → HasId x → IsAscending (x ∷ xs) → AllByRecursion (λ y. HasId y × Comes y x) ys → AreEarlier (ys ++ x ∷ []) xs
  are-earlier x ys [] h ascending all = tt
  are-earlier x ys (z ∷ xs) h ascending all = earlier-still x z ys h (sorted_head key_order (id_key x) _ ascending).0 all

  all-last : (ys xs : Rows) → AllByRecursion HasId xs → IsAscending xs → AreEarlier ys xs → fold (λ zs x. placed (stands_before (by_id Ascending parts)) x zs) ys xs ≡ ys ++ xs
  all-last ys [] identified ascending earlier = sym (append-nil ys)
  all-last ys (x ∷ xs) identified ascending earlier =
      ap (λ zs. fold (λ us x. placed (stands_before (by_id Ascending parts)) x us) zs xs) (put-last x ys identified.0 earlier)
      ∙ all-last (ys ++ x ∷ []) xs identified.1 (sorted_tail key_order (id_key x) _ ascending) (are-earlier x ys xs identified.0 ascending earlier)
      ∙ append_assoc ys (x ∷ []) xs

  -- ---- descending, each comes first
  abbrev IsEarlier : Rows → Rows → Type 0
  IsEarlier [] xs = ⊤
  IsEarlier (y ∷ ys) [] = ⊤
  IsEarlier (y ∷ ys) (x ∷ xs) = HasId y × Comes y x

  put-first : (x : List Field) (ys xs : Rows) → HasId x → IsEarlier ys (x ∷ xs) → placed (stands_before (by_id Descending parts)) x ys ≡ x ∷ ys
  put-first x [] xs h earlier = refl
  put-first x (y ∷ ys) xs h earlier = ap (λ b. cond b (x ∷ y ∷ ys) (y ∷ placed (stands_before (by_id Descending parts)) x ys)) (later-first y x earlier.0 h earlier.1)

  is-earlier : (x : List Field) (ys xs : Rows) → HasId x → IsAscending (x ∷ xs) → IsEarlier (x ∷ ys) xs
  is-earlier x ys [] h ascending = tt
  is-earlier x ys (z ∷ xs) h ascending = (h, (sorted_head key_order (id_key x) _ ascending).0)

  all-first : (ys xs : Rows) → AllByRecursion HasId xs → IsAscending xs → IsEarlier ys xs → fold (λ zs x. placed (stands_before (by_id Descending parts)) x zs) ys xs ≡ reverse xs ++ ys
  all-first ys [] identified ascending earlier = refl
  all-first ys (x ∷ xs) identified ascending earlier =
      ap (λ zs. fold (λ us x. placed (stands_before (by_id Descending parts)) x us) zs xs) (put-first x ys xs identified.0 earlier)
      ∙ all-first (x ∷ ys) xs identified.1 (sorted_tail key_order (id_key x) _ ascending) (is-earlier x ys xs identified.0 ascending)
      ∙ sym (ap (λ zs. zs ++ ys) (reverse-append (x ∷ []) xs) ∙ append_assoc (reverse xs) (x ∷ []) ys)

  stable-by-id : (direction : Direction) (rows : Rows) → AllByRecursion HasId rows → IsAscending rows → stable (by_id direction parts) rows ≡ in_direction direction rows
  unfolding stable
  stable-by-id Ascending rows identified ascending = all-last [] rows identified ascending (none rows)
    where
      none : (xs : Rows) → AreEarlier [] xs
      none [] = tt
      none (x ∷ xs) = tt
  stable-by-id Descending rows identified ascending = all-first [] rows identified ascending tt ∙ append-nil (reverse rows)

-- ---- no more are found than there are
fewer : (test : List Field → Bool) (ds : Rows) → length (filter test ds) ≤ length ds
fewer test [] = omega arith
fewer test (d ∷ ds) = at (test d) (fewer test ds)
  where
    at : (b : Bool) → length (filter test ds) ≤ length ds → length (cond b (d ∷ filter test ds) (filter test ds)) ≤ length (d ∷ ds)
    at true h = omega arith
    at false h = omega arith

as-many : (direction : Direction) (rows : Rows) → length (in_direction direction rows) ≡ length rows
as-many Ascending rows = refl
as-many Descending rows = length-reverse rows

front-of : (most : Option ℕ) (all : ℕ) (rows : Rows) → length rows ≤ all → take (unwrap_or most all) rows ≡ front most rows
front-of None all rows enough = take_all all rows enough
front-of (Some n) all rows enough = refl

-- ascending rows are in the order of a sort by `_id`
pub in-order : (sort : List Part) (direction : Direction) → (parts : List Part) × (sort ≡ by_id direction parts) → (rows : Rows) → AllByRecursion HasId rows → IsAscending rows → (most : Option ℕ) → front most (in_direction direction rows) ≡ front most (stable sort rows)
in-order sort direction is rows identified ascending most = ap (front most) (sym (stable-by-id is.0 direction rows identified ascending) ∙ sym (ap (λ parts. stable parts rows) is.1))

pub first-by-id : (sort : List Part) (direction : Direction) → (parts : List Part) × (sort ≡ by_id direction parts) → (test : List Field → Bool) (ds : Rows) → AllByRecursion HasId (filter test ds) → IsAscending (filter test ds) → (most : Option ℕ) → take (unwrap_or most (length ds)) (in_direction direction (filter test ds)) ≡ front most (stable sort (filter test ds))
first-by-id sort direction is test ds identified ascending most =
    let rows = filter test ds in
    let enough : length (in_direction direction rows) ≤ length ds = omega (arith, fewer test ds, as-many direction rows) in
    front-of most (length ds) (in_direction direction rows) enough ∙ in-order sort direction is rows identified ascending most

-- ---- the path `_id`
last-false : (b : Bool) → b && false ≡ false
last-false true = refl
last-false false = refl

is-true : (a b : Bool) → a && b ≡ true → a ≡ true
is-true true b e = refl
is-true false b e = e

pub id-alone : (path : List (List ℕ)) (name : List ℕ) → same_path path (name ∷ []) ≡ true → path ≡ name ∷ []
id-alone [] name e = absurd cc
id-alone (x ∷ []) name e = ap (λ y. y ∷ []) ((bytes_eq-Decides x name).0 (is-true (bytes_eq x name) true e))
id-alone (x ∷ y ∷ rest) name e = let wrong : true ≡ false = sym e ∙ last-false (bytes_eq x name) in absurd cc
