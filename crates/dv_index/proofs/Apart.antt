-- Documents none of which shares a key with another, when one is inserted, replaced or removed.
use Rattle.std.proofs.Common.{◌≡◌, ◌∙◌, ◌++◌, ℕ, List, [], ◌∷◌, refl, ap, sym, Bool, true, false, cond, not, ◌||◌, ◌&&◌, filter, None, Some}
use Rattle.std.specs.List.{list_any}
use Rattle.std.specs.Ordering.{is_lt}
use Rattle.std.proofs.lemmas.Bool.{and_from, and_parts, not-false, not-true, or_from, or_parts}
use Rattle.std.proofs.lemmas.List.Folds.{list_any-append}
use Rattle.dv_value.specs.Tree.{Field}
use Rattle.dv_order.specs.Key.{KeyTree, key_order}
use Rattle.dv_order.specs.Inner.KeyLaws.{equal-from}
use Rattle.dv_coll.specs.Collection.{IsAscending, found, has_key, id_key, inserted, removed, replaced}
use Rattle.dv_keyed.specs.Index.{IndexForm}
use Rattle.dv_index.specs.Unique.{are_apart, are_broken, clashes, is_broken, is_key_taken, share_key}
use Rattle.dv_index.proofs.Built.{IsElsewhere, elsewhere-later}
use Rattle.dv_index.proofs.Picked.{head-before, tail-ascends}
use Rattle.dv_index.proofs.Shared.{any-false, share-back}

-- ---- documents under other `_id`s
none-found : (i : KeyTree) (ds : List (List Field)) → found i ds ≡ None → IsElsewhere i ds
none-found i [] e = tt
none-found i (d ∷ ds) e = at (has_key i d) refl e (none-found i ds)
  where
    at : (b : Bool) → has_key i d ≡ b → cond b (Some d) (found i ds) ≡ None → (found i ds ≡ None → IsElsewhere i ds) → IsElsewhere i (d ∷ ds)
    at true is f rest = absurd cc
    at false is f rest = (is, rest f)

kept-elsewhere : (d : List Field) (ds : List (List Field)) → IsElsewhere (id_key d) ds → replaced d ds ≡ ds
kept-elsewhere d [] h = refl
kept-elsewhere d (e ∷ ds) h = λ j. cond (h.0 j) d e ∷ kept-elsewhere d ds h.1 j

module _ (path : List (List ℕ)) where
  taken-elsewhere : (d : List Field) (ds : List (List Field)) → IsElsewhere (id_key d) ds → is_key_taken path d ds ≡ list_any (share_key path d) ds
  taken-elsewhere d [] h = refl
  taken-elsewhere d (e ∷ ds) h = λ j. (not (h.0 j) && share_key path d e) || taken-elsewhere d ds h.1 j

  -- ---- documents apart
  apart-from : (d : List Field) (ds : List (List Field)) → list_any (share_key path d) ds ≡ false → are_apart path ds ≡ true → are_apart path (d ∷ ds) ≡ true
  apart-from d ds none rest = ap (λ b. not b && are_apart path ds) none ∙ rest

  apart-parts : (d : List Field) (ds : List (List Field)) → are_apart path (d ∷ ds) ≡ true → (list_any (share_key path d) ds ≡ false) × (are_apart path ds ≡ true)
  apart-parts d ds h = let parts = and_parts (not (list_any (share_key path d) ds)) (are_apart path ds) h in (not-true (list_any (share_key path d) ds) parts.0, parts.1)

  none-inserted : (d e : List Field) → share_key path e d ≡ false → (ds : List (List Field)) → list_any (share_key path e) ds ≡ false → list_any (share_key path e) (inserted d ds) ≡ false
  none-inserted d e unshared [] f = or_from (share_key path e d) false unshared refl
  none-inserted d e unshared (x ∷ ds) f = by (is_lt (key_order (id_key d) (id_key x))) (none-inserted d e unshared ds (or_parts (share_key path e x) (list_any (share_key path e) ds) f).1)
    where
      by : (c : Bool) → list_any (share_key path e) (inserted d ds) ≡ false → list_any (share_key path e) (cond c (d ∷ x ∷ ds) (x ∷ inserted d ds)) ≡ false
      by true more = or_from (share_key path e d) (list_any (share_key path e) (x ∷ ds)) unshared f
      by false more = or_from (share_key path e x) (list_any (share_key path e) (inserted d ds)) (or_parts (share_key path e x) (list_any (share_key path e) ds) f).0 more

  apart-inserted : (d : List Field) (ds : List (List Field)) → list_any (share_key path d) ds ≡ false → are_apart path ds ≡ true → are_apart path (inserted d ds) ≡ true
  apart-inserted d [] none h = refl
  apart-inserted d (e ∷ ds) none h = at (is_lt (key_order (id_key d) (id_key e))) (apart-inserted d ds parts.1 rest.1)
    where
      parts : (share_key path d e ≡ false) × (list_any (share_key path d) ds ≡ false)
      parts = or_parts (share_key path d e) (list_any (share_key path d) ds) none

      rest : (list_any (share_key path e) ds ≡ false) × (are_apart path ds ≡ true)
      rest = apart-parts e ds h

      at : (b : Bool) → are_apart path (inserted d ds) ≡ true → are_apart path (cond b (d ∷ e ∷ ds) (e ∷ inserted d ds)) ≡ true
      at true behind = apart-from d (e ∷ ds) none h
      at false behind = apart-from e (inserted d ds) (none-inserted d e (share-back path e d ∙ parts.0) ds rest.0) behind

  none-replaced : (d e : List Field) → share_key path e d ≡ false → (ds : List (List Field)) → list_any (share_key path e) ds ≡ false → list_any (share_key path e) (replaced d ds) ≡ false
  none-replaced d e unshared [] f = refl
  none-replaced d e unshared (x ∷ ds) f = by (has_key (id_key d) x) (none-replaced d e unshared ds (or_parts (share_key path e x) (list_any (share_key path e) ds) f).1)
    where
      by : (c : Bool) → list_any (share_key path e) (replaced d ds) ≡ false → list_any (share_key path e) (cond c d x ∷ replaced d ds) ≡ false
      by true more = or_from (share_key path e d) (list_any (share_key path e) (replaced d ds)) unshared more
      by false more = or_from (share_key path e x) (list_any (share_key path e) (replaced d ds)) (or_parts (share_key path e x) (list_any (share_key path e) ds) f).0 more

  apart-replaced : (d : List Field) (ds : List (List Field)) → IsAscending ds → is_key_taken path d ds ≡ false → are_apart path ds ≡ true → are_apart path (replaced d ds) ≡ true
  apart-replaced d [] ascending none h = refl
  apart-replaced d (e ∷ ds) ascending none h = at (has_key (id_key d) e) refl (apart-replaced d ds (tail-ascends e ds ascending) parts.1 rest.1)
    where
      parts : (not (has_key (id_key d) e) && share_key path d e ≡ false) × (is_key_taken path d ds ≡ false)
      parts = or_parts (not (has_key (id_key d) e) && share_key path d e) (is_key_taken path d ds) none

      rest : (list_any (share_key path e) ds ≡ false) × (are_apart path ds ≡ true)
      rest = apart-parts e ds h

      at : (b : Bool) → has_key (id_key d) e ≡ b → are_apart path (replaced d ds) ≡ true → are_apart path (cond b d e ∷ replaced d ds) ≡ true
      at true is behind =
          let other = elsewhere-later (id_key d) (id_key e) ds (equal-from (key_order (id_key d) (id_key e)) is) (head-before e ds ascending) in
          apart-from d (replaced d ds) (ap (list_any (share_key path d)) (kept-elsewhere d ds other) ∙ sym (taken-elsewhere d ds other) ∙ parts.1) behind
      at false is behind =
          apart-from e (replaced d ds) (none-replaced d e (share-back path e d ∙ ap (λ b. not b && share_key path d e) (sym is) ∙ parts.0) ds rest.0) behind

  none-kept : (e : List Field) (test : List Field → Bool) (ds : List (List Field)) → list_any (share_key path e) ds ≡ false → list_any (share_key path e) (filter test ds) ≡ false
  none-kept e test [] f = refl
  none-kept e test (x ∷ ds) f = by (test x) (none-kept e test ds (or_parts (share_key path e x) (list_any (share_key path e) ds) f).1)
    where
      by : (c : Bool) → list_any (share_key path e) (filter test ds) ≡ false → list_any (share_key path e) (cond c (x ∷ filter test ds) (filter test ds)) ≡ false
      by true more = or_from (share_key path e x) (list_any (share_key path e) (filter test ds)) (or_parts (share_key path e x) (list_any (share_key path e) ds) f).0 more
      by false more = more

  apart-kept : (test : List Field → Bool) (ds : List (List Field)) → are_apart path ds ≡ true → are_apart path (filter test ds) ≡ true
  apart-kept test [] h = refl
  apart-kept test (e ∷ ds) h = by (test e) (apart-kept test ds rest.1)
    where
      rest : (list_any (share_key path e) ds ≡ false) × (are_apart path ds ≡ true)
      rest = apart-parts e ds h

      by : (c : Bool) → are_apart path (filter test ds) ≡ true → are_apart path (cond c (e ∷ filter test ds) (filter test ds)) ≡ true
      by true behind = apart-from e (filter test ds) (none-kept e test ds rest.0) behind
      by false behind = behind

-- ---- indexes, none of which is broken
-- if no key of d is taken, and documents that are apart stay apart
still-unbroken : (d : List Field) (ds news : List (List Field)) → ((path : List (List ℕ)) → is_key_taken path d ds ≡ false → are_apart path ds ≡ true → are_apart path news ≡ true) → (xs : List IndexForm) → are_broken xs ds ≡ false → clashes xs d ds ≡ false → are_broken xs news ≡ false
still-unbroken d ds news stay [] e f = refl
still-unbroken d ds news stay (x ∷ xs) e f =
    let whole = or_parts (is_broken x ds) (are_broken xs ds) e in
    let free = or_parts (x.unique && is_key_taken x.path d ds) (clashes xs d ds) f in
    or_from (is_broken x news) (are_broken xs news) (one x.unique whole.0 free.0) (still-unbroken d ds news stay xs whole.1 free.1)
  where
    one : (u : Bool) → u && not (are_apart x.path ds) ≡ false → u && is_key_taken x.path d ds ≡ false → u && not (are_apart x.path news) ≡ false
    one true g h = ap not (stay x.path h (not-false (are_apart x.path ds) g))
    one false g h = refl

pub insert_breaks_nothing : (indexes : List IndexForm) (d : List Field) (ds : List (List Field)) → IsAscending ds → found (id_key d) ds ≡ None → are_broken indexes ds ≡ false → clashes indexes d ds ≡ false → are_broken indexes (inserted d ds) ≡ false
insert_breaks_nothing indexes d ds ascending fresh =
    still-unbroken d ds (inserted d ds) (λ path free. apart-inserted path d ds (sym (taken-elsewhere path d ds (none-found (id_key d) ds fresh)) ∙ free)) indexes

pub replacement_breaks_nothing : (indexes : List IndexForm) (d : List Field) (ds : List (List Field)) → IsAscending ds → are_broken indexes ds ≡ false → clashes indexes d ds ≡ false → are_broken indexes (replaced d ds) ≡ false
replacement_breaks_nothing indexes d ds ascending = still-unbroken d ds (replaced d ds) (λ path. apart-replaced path d ds ascending) indexes

pub removal_breaks_nothing : (indexes : List IndexForm) (k : KeyTree) (ds : List (List Field)) → are_broken indexes ds ≡ false → are_broken indexes (removed k ds) ≡ false
removal_breaks_nothing indexes k ds = any-false (λ x. is_broken x (removed k ds)) (λ x. is_broken x ds) was indexes
  where
    was : (x : IndexForm) → is_broken x (removed k ds) ≡ true → is_broken x ds ≡ true
    was x e = at (are_apart x.path ds) refl
      where
        parts : (x.unique ≡ true) × (not (are_apart x.path (removed k ds)) ≡ true)
        parts = and_parts x.unique (not (are_apart x.path (removed k ds))) e

        at : (b : Bool) → are_apart x.path ds ≡ b → is_broken x ds ≡ true
        at true is = let no : false ≡ true = ap not (sym (apart-kept x.path (λ d. not (has_key k d)) ds is)) ∙ parts.1 in absurd cc
        at false is = and_from x.unique (not (are_apart x.path ds)) parts.0 (ap not is)

pub nothing_broken : (indexes : List IndexForm) → are_broken indexes [] ≡ false
nothing_broken [] = refl
nothing_broken (x ∷ xs) = or_from (is_broken x []) (are_broken xs []) (never x.unique) (nothing_broken xs)
  where
    never : (b : Bool) → b && false ≡ false
    never true = refl
    never false = refl

pub fewer_break : (p : IndexForm → Bool) (indexes : List IndexForm) (ds : List (List Field)) → are_broken indexes ds ≡ false → are_broken (filter p indexes) ds ≡ false
fewer_break p [] ds e = refl
fewer_break p (x ∷ xs) ds e = by (p x) (fewer_break p xs ds parts.1)
  where
    parts : (is_broken x ds ≡ false) × (are_broken xs ds ≡ false)
    parts = or_parts (is_broken x ds) (are_broken xs ds) e

    by : (c : Bool) → are_broken (filter p xs) ds ≡ false → are_broken (cond c (x ∷ filter p xs) (filter p xs)) ds ≡ false
    by true rest = or_from (is_broken x ds) (are_broken (filter p xs) ds) parts.0 rest
    by false rest = rest

pub one_by_one : (xs ys : List IndexForm) (ds : List (List Field)) → are_broken (xs ++ ys) ds ≡ are_broken xs ds || are_broken ys ds
one_by_one xs ys ds = list_any-append (λ x. is_broken x ds) xs ys
