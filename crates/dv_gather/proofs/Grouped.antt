-- What is gathered under keys are the documents of each key.
use Rattle.std.proofs.Common.{◌≡◌, ◌∙◌, ap, sym, refl, Bool, true, false, ◌||◌, List, [], ◌∷◌, ◌++◌, map, append_assoc, append-nil, Some, if◌then◌else◌, Result, Ok, Err}
use Rattle.std.specs.Result.{IfOk}
use Rattle.std.specs.List.{list_any}
use Rattle.std.specs.List.Sorted.{IsStrictlySortedBy}
use Rattle.std.specs.Map.{lookup}
use Rattle.std.specs.Option.{unwrap_or}
use Rattle.std.specs.BTreeMap.{insert_entry, is_at}
use Rattle.std.specs.Ordering.{is_eq, match_ordering}
use Rattle.std.specs.declared.cmp.Ordering.{Ordering}
use Rattle.std.specs.declared.cmp.Ordering.TheVariants.{Less, Equal, Greater}
use Rattle.std.proofs.lemmas.Bool.{or_parts}
use Rattle.dv_value.specs.Tree.{Tree, Field}
use Rattle.dv_order.specs.Order.{canon, order}
use Rattle.dv_order.specs.Key.{value, key_order}
use Rattle.dv_gather.specs.Groups.{Keyed, with_key, keys_from, group_keys, documents_under_key, groups_of}
use Rattle.dv_gather.specs.Inner.Gathering.{Entry, listed, group_put, gathered}
use Rattle.dv_gather.specs.Inner.GroupLaws.{above-earlier, above-same, Above, any-with, back, itself, same-as, sorted-with}

-- ---- entries

abbrev entry : Tree → List (List Field) → Entry
entry k l = (value (canon k), l)

module _ (stands : (v w : Tree) → key_order (value (canon v)) (value (canon w)) ≡ order v w) where
  abbrev entries : (Tree → List (List Field)) → List Tree → List Entry
  entries f = map (λ k. entry k (f k))

  module _ (v : Tree) (f g : Tree → List (List Field)) (all : List (List Field)) (others : (k : Tree) → is_eq (order k v) ≡ false → g k ≡ f k) (own : (k : Tree) → is_eq (order k v) ≡ true → g k ≡ all) where
    apart : (k : Tree) → order v k ≡ Less → g k ≡ f k
    apart k e = others k (ap is_eq (back v k Less e))

    above-alike : (ks : List Tree) → Above v ks → entries f ks ≡ entries g ks
    above-alike [] h = refl
    above-alike (k ∷ ks) h = ap (λ l. entry k l ∷ entries f ks) (sym (apart k h.0)) ∙ ap (λ es. entry k (g k) ∷ es) (above-alike ks h.1)

    inserted : (ks : List Tree) → IsStrictlySortedBy order ks → insert_entry key_order (entries f ks) (value (canon v)) all ≡ entries g (with_key v ks)
    unfolding IsStrictlySortedBy
    inserted [] h = ap (λ l. entry v l ∷ []) (sym (own v (itself v)))
    inserted (k ∷ ks) h =
        ap (λ o. match_ordering o (entry v all ∷ entry k (f k) ∷ entries f ks) (entry k all ∷ entries f ks) (entry k (f k) ∷ insert_entry key_order (entries f ks) (value (canon v)) all)) (stands v k)
        ∙ go (order v k) refl (inserted ks h.1)
      where
        go : (o : Ordering) → order v k ≡ o → insert_entry key_order (entries f ks) (value (canon v)) all ≡ entries g (with_key v ks)
            → match_ordering o (entry v all ∷ entry k (f k) ∷ entries f ks) (entry k all ∷ entries f ks) (entry k (f k) ∷ insert_entry key_order (entries f ks) (value (canon v)) all) ≡ entries g (match_ordering o (v ∷ k ∷ ks) (k ∷ ks) (k ∷ with_key v ks))
        go Less e rest = ap (λ l. entry v l ∷ entry k (f k) ∷ entries f ks) (sym (own v (itself v))) ∙ ap (λ es. entry v (g v) ∷ es) (above-alike (k ∷ ks) (e, above-earlier v k ks e h.0))
        go Equal e rest = ap (λ l. entry k l ∷ entries f ks) (sym (own k (ap is_eq (back v k Equal e)))) ∙ ap (λ es. entry k (g k) ∷ es) (above-alike ks (above-same v k ks e h.0))
        go Greater e rest = ap (λ l. entry k l ∷ insert_entry key_order (entries f ks) (value (canon v)) all) (sym (others k (ap is_eq (back v k Greater e)))) ∙ ap (λ es. entry k (g k) ∷ es) rest

  -- what is under a key
  found : (v : Tree) (f : Tree → List (List Field)) → ((k : Tree) → is_eq (order v k) ≡ true → f k ≡ f v) → (ks : List Tree) → (list_any (λ k. is_eq (order v k)) ks ≡ false → f v ≡ []) → listed (value (canon v)) (entries f ks) ≡ f v
  found v f alike [] none = sym (none refl)
  found v f alike (k ∷ ks) none = ap (λ o. unwrap_or (if is_eq o then Some (f k) else lookup (is_at (key_order (value (canon v)))) (entries f ks)) []) (stands v k) ∙ go (is_eq (order v k)) refl (found v f alike ks)
    where
      go : (b : Bool) → is_eq (order v k) ≡ b → ((list_any (λ k. is_eq (order v k)) ks ≡ false → f v ≡ []) → listed (value (canon v)) (entries f ks) ≡ f v) → unwrap_or (if b then Some (f k) else lookup (is_at (key_order (value (canon v)))) (entries f ks)) [] ≡ f v
      go true e rest = alike k e
      go false e rest = rest (λ h. none (ap (λ b. b || list_any (λ k. is_eq (order v k)) ks) e ∙ h))

  -- documents that were gathered
  record IsGathered (ks : List Tree) (ds : List Keyed) (es : List Entry) : Type 0 where
    sorted : IsStrictlySortedBy order ks
    complete : (v : Tree) → list_any (λ k. is_eq (order v k)) ks ≡ false → documents_under_key v ds ≡ []
    are : es ≡ entries (λ k. documents_under_key k ds) ks

  first-more : {X : Type 0} (b : Bool) (x : X) (xs ys last : List X) → xs ≡ ys ++ last → (if b then x ∷ xs else xs) ≡ (if b then x ∷ ys else ys) ++ last
  first-more true x xs ys last e = ap (λ l. x ∷ l) e
  first-more false x xs ys last e = e

  under-more : (k : Tree) (ds : List Keyed) (d : Keyed) → documents_under_key k (ds ++ d ∷ []) ≡ documents_under_key k ds ++ (if is_eq (order k d.0) then d.1 ∷ [] else [])
  under-more k [] d = refl
  under-more k (e ∷ ds) d = first-more (is_eq (order k e.0)) e.1 (documents_under_key k (ds ++ d ∷ [])) (documents_under_key k ds) (if is_eq (order k d.0) then d.1 ∷ [] else []) (under-more k ds d)

  under-alike : (v k : Tree) → order v k ≡ Equal → (ds : List Keyed) → documents_under_key v ds ≡ documents_under_key k ds
  under-alike v k e [] = refl
  under-alike v k e (d ∷ ds) = ap (λ o. if is_eq o then d.1 ∷ documents_under_key v ds else documents_under_key v ds) (same-as v k d.0 e) ∙ ap (λ l. if is_eq (order k d.0) then d.1 ∷ l else l) (under-alike v k e ds)

  is-equal : (o : Ordering) → is_eq o ≡ true → o ≡ Equal
  is-equal Less e = cc
  is-equal Equal e = refl
  is-equal Greater e = cc

  gathered-one : (ks : List Tree) (ds : List Keyed) (es : List Entry) → IsGathered ks ds es → (d : Keyed) → IsGathered (with_key d.0 ks) (ds ++ d ∷ []) (group_put (value (canon d.0)) d.1 es)
  gathered-one ks ds es h d = record {
    sorted = sorted-with d.0 ks h.sorted;
    complete = λ v none.
        let both = or_parts (is_eq (order v d.0)) (list_any (λ k. is_eq (order v k)) ks) (sym (any-with v d.0 ks) ∙ none) in
        under-more v ds d ∙ ap (λ (b : Bool). documents_under_key v ds ++ (if b then d.1 ∷ [] else [])) both.0 ∙ append-nil (documents_under_key v ds) ∙ h.complete v both.1;
    are =
        let f = λ (k : Tree). documents_under_key k ds in
        let all = documents_under_key d.0 ds ++ d.1 ∷ [] in
        ap (group_put (value (canon d.0)) d.1) h.are
        ∙ ap (λ l. insert_entry key_order (entries f ks) (value (canon d.0)) (l ++ d.1 ∷ [])) (found d.0 f (λ k e. sym (under-alike d.0 k (is-equal (order d.0 k) e) ds)) ks (h.complete d.0))
        ∙ inserted d.0 f (λ k. documents_under_key k (ds ++ d ∷ [])) all
        (λ k e. under-more k ds d ∙ ap (λ (b : Bool). documents_under_key k ds ++ (if b then d.1 ∷ [] else [])) e ∙ append-nil (documents_under_key k ds))
        (λ k e. under-more k ds d ∙ ap (λ (b : Bool). documents_under_key k ds ++ (if b then d.1 ∷ [] else [])) e ∙ ap (λ l. l ++ d.1 ∷ []) (under-alike k d.0 (is-equal (order k d.0) e) ds))
        ks h.sorted;
  }

  gathered-all : (ks : List Tree) (before : List Keyed) (es : List Entry) → IsGathered ks before es → (ds : List Keyed) → IsGathered (keys_from ks ds) (before ++ ds) (gathered es ds)
  gathered-all ks before es h [] = record { sorted = h.sorted; complete = λ v none. ap (documents_under_key v) (append-nil before) ∙ h.complete v none; are = h.are ∙ ap (λ l. entries (λ k. documents_under_key k l) ks) (sym (append-nil before)) }
  gathered-all ks before es h (d ∷ ds) =
      let rest = gathered-all (with_key d.0 ks) (before ++ d ∷ []) (group_put (value (canon d.0)) d.1 es) (gathered-one ks before es h d) ds in
      let joined : (before ++ d ∷ []) ++ ds ≡ before ++ d ∷ ds = append_assoc before (d ∷ []) ds in
      record { sorted = rest.sorted; complete = λ v none. ap (documents_under_key v) (sym joined) ∙ rest.complete v none; are = rest.are ∙ ap (λ l. entries (λ k. documents_under_key k l) (keys_from (with_key d.0 ks) ds)) joined }

  second-of : (f : Tree → List (List Field)) (ks : List Tree) → map (λ e. e.1) (entries f ks) ≡ map f ks
  second-of f [] = refl
  second-of f (k ∷ ks) = ap (λ l. f k ∷ l) (second-of f ks)

  start : IsGathered [] [] []
  unfolding IsStrictlySortedBy
  start = record { sorted = tt; complete = λ v none. refl; are = refl }

  pub groups-are : (ds : List Keyed) → map (λ e. e.1) (gathered [] ds) ≡ groups_of ds
  unfolding groups_of
  groups-are ds = ap (map (λ e. e.1)) (gathered-all [] [] [] start ds).are ∙ second-of (λ k. documents_under_key k ds) (group_keys ds)

pub if-ok : {X E : Type 0} {P Q : X → Type 0} → ((x : X) → P x → Q x) → (r : Result X E) → IfOk r P → IfOk r Q
if-ok f (Ok x) h = f x h
if-ok f (Err e) h = tt
