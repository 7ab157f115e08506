-- Lists of indexes that change, and an index that is built of all documents.
use Rattle.std.proofs.Common.{◌≡◌, ◌∙◌, ◌++◌, ℕ, List, [], ◌∷◌, length, is_some, map, refl, ap, sym, subst, Bool, true, false, cond, not, ◌||◌, ◌&&◌, filter, Option, None, Some}
use Rattle.std.specs.List.{AllByRecursion, list_any}
use Rattle.std.proofs.lemmas.List.{length-map}
use Rattle.std.specs.Option.{option_map}
use Rattle.std.specs.Str.{bytes_eq}
use Rattle.std.proofs.lemmas.Slice.Eq.{bytes_eq-Decides}
use Rattle.std.specs.declared.cmp.Ordering.TheVariants.{Equal}
use Rattle.std.specs.Ordering.{is_eq}
use Rattle.std.proofs.lemmas.Cmp.{tied_itself}
use Rattle.std.proofs.Math.Bool.{or-false}
use Rattle.dv_value.specs.Tree.{Field}
use Rattle.dv_order.specs.Key.{KeyTree, key_order}
use Rattle.dv_order.specs.Inner.KeyLaws.{key_order_total, equal-from}
use Rattle.dv_coll.specs.Collection.{IsAscending, found, has_key, id_key, replaced}
use Rattle.dv_index.specs.Inner.Change.{AreIndexesOf}
use Rattle.dv_keyed.specs.Index.{IndexForm, id_form}
use Rattle.dv_keyed.specs.Inner.Index.{IndexTree, BeginsWithId, form_of}
use Rattle.dv_index.specs.Indexed.{IndexedTree, is_dropped, without_index}
use Rattle.dv_index.specs.Inner.Indexed.{with_documents, with_indexes}
use Rattle.dv_path.specs.LeafKeys.{is_leaf_key}
use Rattle.dv_keyed.specs.Inner.Pairs.{Pair, has_pair}
use Rattle.dv_index.specs.Inner.Search.{IsIndexOf, is_key_under}
use Rattle.dv_index.proofs.Picked.{Before, head-before, tail-ascends}

module _ (name : List ℕ) where
  stays : IndexTree → Bool
  stays x = not (is_dropped name (form_of x))

  pub forms-kept : (xs : List IndexTree) → map form_of (filter (λ x. not (is_dropped name (form_of x))) xs) ≡ without_index name (map form_of xs)
  forms-kept [] = refl
  forms-kept (x ∷ xs) = at (not (is_dropped name (form_of x))) (forms-kept xs)
    where
      at : (b : Bool) → map form_of (filter (λ y. not (is_dropped name (form_of y))) xs) ≡ without_index name (map form_of xs) → map form_of (cond b (x ∷ filter (λ y. not (is_dropped name (form_of y))) xs) (filter (λ y. not (is_dropped name (form_of y))) xs)) ≡ cond b (form_of x ∷ without_index name (map form_of xs)) (without_index name (map form_of xs))
      at true e = ap (λ fs. form_of x ∷ fs) e
      at false e = e

  all-kept : (P : IndexTree → Type 0) (xs : List IndexTree) → AllByRecursion P xs → AllByRecursion P (filter (λ x. not (is_dropped name (form_of x))) xs)
  all-kept P [] h = tt
  all-kept P (x ∷ xs) h = at (not (is_dropped name (form_of x))) (all-kept P xs h.1)
    where
      at : (b : Bool) → AllByRecursion P (filter (λ y. not (is_dropped name (form_of y))) xs) → AllByRecursion P (cond b (x ∷ filter (λ y. not (is_dropped name (form_of y))) xs) (filter (λ y. not (is_dropped name (form_of y))) xs))
      at true rest = (h.0, rest)
      at false rest = rest

  and-false : (a : Bool) → a && false ≡ false
  and-false true = refl
  and-false false = refl

  id-stays : (x : IndexTree) → form_of x ≡ id_form → not (is_dropped name (form_of x)) ≡ true
  id-stays x e = ap (λ f. not (is_dropped name f)) e ∙ ap not (and-false (bytes_eq id_form.name name))

  pub kept-begin : (xs : List IndexTree) → BeginsWithId xs → BeginsWithId (filter (λ x. not (is_dropped name (form_of x))) xs)
  kept-begin [] b = absurd b
  kept-begin (x ∷ xs) b = subst (λ t. BeginsWithId (cond t (x ∷ filter (λ y. not (is_dropped name (form_of y))) xs) (filter (λ y. not (is_dropped name (form_of y))) xs))) (sym (id-stays x b)) b

  pub kept-indexes : (xs : List IndexTree) (ds : List (List Field)) → BeginsWithId xs → AreIndexesOf xs ds → AreIndexesOf (filter (λ x. not (is_dropped name (form_of x))) xs) ds
  kept-indexes [] ds b h = absurd b
  kept-indexes (x ∷ xs) ds b h =
      subst (λ t. AreIndexesOf (cond t (x ∷ filter (λ y. not (is_dropped name (form_of y))) xs) (filter (λ y. not (is_dropped name (form_of y))) xs)) ds) (sym (id-stays x b)) (all-kept (λ y. IsIndexOf y ds) xs h)

  -- an index that is put after others, none of which has its name, is dropped alone
  module _ (path : List (List ℕ)) (unique : Bool) (other : bytes_eq name id_form.name ≡ false) where
    abbrev with-last : List IndexForm → List IndexForm
    with-last xs = without_index name (xs ++ record { name = name; path = path; unique = unique } ∷ [])

    pub last_dropped : (xs : List IndexForm) → list_any (λ x. bytes_eq x.name name) xs ≡ false → with-last xs ≡ xs
    last_dropped [] fresh = ap (λ b. cond (not b) (record { name = name; path = path; unique = unique } ∷ []) []) (ap (λ b. b && not (bytes_eq name id_form.name)) ((bytes_eq-Decides name name).1 refl) ∙ ap not other)
    last_dropped (x ∷ xs) fresh = at (bytes_eq x.name name) refl fresh (last_dropped xs)
      where
        at : (b : Bool) → bytes_eq x.name name ≡ b → b || list_any (λ y. bytes_eq y.name name) xs ≡ false → (list_any (λ y. bytes_eq y.name name) xs ≡ false → with-last xs ≡ xs) → with-last (x ∷ xs) ≡ x ∷ xs
        at true e f rest = absurd cc
        at false e f rest = ap (λ b. cond (not (b && not (bytes_eq x.name id_form.name))) (x ∷ with-last xs) (with-last xs)) e ∙ ap (λ ys. x ∷ ys) (rest f)

pub none_dropped : (xs : List IndexForm) → without_index id_form.name xs ≡ xs
none_dropped [] = refl
none_dropped (x ∷ xs) = ap (λ b. cond (not b) (x ∷ without_index id_form.name xs) (without_index id_form.name xs)) (never (bytes_eq x.name id_form.name)) ∙ ap (λ ys. x ∷ ys) (none_dropped xs)
  where
    never : (b : Bool) → b && not b ≡ false
    never true = refl
    never false = refl

-- ---- an index of all documents
-- some of these documents has an `_id` and a key
abbrev pub some-has : (k id : KeyTree) (path : List (List ℕ)) → List (List Field) → Bool
some-has k id path ds = list_any (λ d. is_eq (key_order id (id_key d)) && is_leaf_key k path d) ds

none-later : (k id l : KeyTree) (path : List (List ℕ)) (ds : List (List Field)) → key_order id l ≡ Equal → Before l ds → some-has k id path ds ≡ false
none-later k id l path [] e b = refl
none-later k id l path (d ∷ ds) e b =
    ap (λ o. (is_eq o && is_leaf_key k path d) || some-has k id path ds) (key_order_total.congr id l (id_key d) e ∙ b.0) ∙ none-later k id l path ds e b.1

pub some-has-found : (k id : KeyTree) (path : List (List ℕ)) (ds : List (List Field)) → IsAscending ds → some-has k id path ds ≡ is_key_under k path (found id ds)
some-has-found k id path [] h = refl
some-has-found k id path (d ∷ ds) h = at (is_eq (key_order id (id_key d))) refl (some-has-found k id path ds (tail-ascends d ds h))
  where
    at : (b : Bool) → is_eq (key_order id (id_key d)) ≡ b → some-has k id path ds ≡ is_key_under k path (found id ds) → (b && is_leaf_key k path d) || some-has k id path ds ≡ is_key_under k path (cond b (Some d) (found id ds))
    at true e rest = ap (λ c. is_leaf_key k path d || c) (none-later k id (id_key d) path ds (equal-from (key_order id (id_key d)) e) (head-before d ds h)) ∙ or-false (is_leaf_key k path d)
    at false e rest = rest

-- an `_id` that none of these documents has
abbrev pub IsElsewhere : KeyTree → List (List Field) → Type 0
IsElsewhere i ds = AllByRecursion (λ d. is_eq (key_order i (id_key d)) ≡ false) ds

pub elsewhere-later : (i l : KeyTree) (ds : List (List Field)) → key_order i l ≡ Equal → Before l ds → IsElsewhere i ds
elsewhere-later i l [] e b = tt
elsewhere-later i l (d ∷ ds) e b = (ap is_eq (key_order_total.congr i l (id_key d) e ∙ b.0), elsewhere-later i l ds e b.1)

-- if no pair has the `_id` of a document that is left, this holds still after those of the first one are added
module _ (d : List Field) (ds : List (List Field)) (ascending : IsAscending (d ∷ ds)) (ps : List Pair) (apart : (k i : KeyTree) → has_pair k i ps ≡ true → IsElsewhere i (d ∷ ds)) where
  pub no-pair-yet : (k : KeyTree) → has_pair k (id_key d) ps ≡ false
  no-pair-yet k = by (has_pair k (id_key d) ps) refl
    where
      by : (b : Bool) → has_pair k (id_key d) ps ≡ b → b ≡ false
      by true e = sym (ap is_eq (tied_itself key_order_total (id_key d))) ∙ (apart k (id_key d) e).0
      by false e = refl

  pub still-apart : (more : Bool) (k i : KeyTree) → has_pair k i ps || (is_eq (key_order i (id_key d)) && more) ≡ true → IsElsewhere i ds
  still-apart more k i e = by (has_pair k i ps) (is_eq (key_order i (id_key d))) refl refl e
    where
      by : (b c : Bool) → has_pair k i ps ≡ b → is_eq (key_order i (id_key d)) ≡ c → b || (c && more) ≡ true → IsElsewhere i ds
      by true c was is f = (apart k i was).1
      by false true was is f = elsewhere-later i (id_key d) ds (equal-from (key_order i (id_key d)) is) (head-before d ds ascending)
      by false false was is f = absurd cc

pub same_pairs : (x y : IndexTree) (ds : List (List Field)) → x.path ≡ y.path → IsIndexOf x ds → IsIndexOf y ds → (k id : KeyTree) → has_pair k id x.pairs ≡ has_pair k id y.pairs
same_pairs x y ds same hx hy k id = hx.has k id ∙ ap (λ p. is_key_under k p (found id ds)) same ∙ sym (hy.has k id)

-- ---- indexes of the same forms
pub same-length : (xs ys : List IndexTree) → map form_of xs ≡ map form_of ys → length xs ≡ length ys
same-length xs ys e = sym (length-map xs form_of) ∙ ap length e ∙ length-map ys form_of

pub begins-alike : (xs ys : List IndexTree) → map form_of xs ≡ map form_of ys → BeginsWithId ys → BeginsWithId xs
begins-alike xs [] e b = absurd b
begins-alike [] (y ∷ ys) e b = absurd cc
begins-alike (x ∷ xs) (y ∷ ys) e b = let same : form_of x ≡ form_of y = cc in same ∙ b

-- ---- a document that isn't there replaces none
pub not-replaced : (d : List Field) (ds : List (List Field)) → is_some (found (id_key d) ds) ≡ false → replaced d ds ≡ ds
not-replaced d [] e = refl
not-replaced d (x ∷ xs) e = at (has_key (id_key d) x) e (not-replaced d xs)
  where
    at : (b : Bool) → is_some (cond b (Some x) (found (id_key d) xs)) ≡ false → (is_some (found (id_key d) xs) ≡ false → replaced d xs ≡ xs) → cond b d x ∷ replaced d xs ≡ x ∷ xs
    at true f rest = absurd cc
    at false f rest = ap (λ es. x ∷ es) (rest f)

pub some-of-map : {X Y : Type 0} (f : X → Y) (o : Option X) → is_some (option_map f o) ≡ is_some o
some-of-map f None = refl
some-of-map f (Some x) = refl

-- ---- a collection with its indexes, as a whole
pub kept-whole : (x y : IndexedTree) → x ≡ y → (d : List Field) → replaced d x.documents ≡ x.documents → y ≡ with_documents (replaced d y.documents) y
kept-whole x y e d same = subst (λ (z : IndexedTree). z ≡ with_documents (replaced d z.documents) z) e (ap (λ ds. with_documents ds x) (sym same))

pub dropped-whole : (x y : IndexedTree) → x ≡ y → (name : List ℕ) (fs : List IndexForm) → fs ≡ without_index name x.indexes → with_indexes fs x ≡ with_indexes (without_index name y.indexes) y
dropped-whole x y e name fs same = ap (λ gs. with_indexes gs x) same ∙ ap (λ (z : IndexedTree). with_indexes (without_index name z.indexes) z) e
