-- Indexes that are still to be made are found by their names and paths.
use Rattle.std.proofs.Common.{◌≡◌, ◌∙◌, ◌++◌, ◌&&◌, ◌||◌, ◌⊎◌, inl, inr, ℕ, Bool, true, false, cond, List, [], ◌∷◌, Option, Some, is_some, slice_get, zero, suc, refl, sym, ap, arith}
use Rattle.std.proofs.lemmas.List.Folds.{list_any-append}
use Rattle.std.proofs.lemmas.Slice.Eq.{bytes_eq-Decides}
use Rattle.std.specs.Bool.{beq}
use Rattle.std.specs.BTreeMap.{BTreeMap, get_by_text}
use Rattle.std.specs.BTreeSet.{BTreeSet, contains_text}
use Rattle.std.specs.List.{list_any}
use Rattle.std.specs.Str.{bytes_eq}
use Rattle.std.specs.declared.string.String.{String}
use Rattle.std.proofs.lemmas.Bool.{and_parts}
use Rattle.dv_catalog.specs.Inner.ComingParts.{AreFound, joined}
use Rattle.dv_catalog.specs.IndexMaking.{is_alike, is_same}
use Rattle.dv_value.specs.Inner.ByteLaws.{bytes_eq-symmetric}
use Rattle.dv_keyed.specs.Choice.{same_path}
use Rattle.dv_keyed.specs.Index.{IndexForm}
use Rattle.dv_keyed.specs.Inner.ListLaws.{one-path}

or_true : (b c : Bool) → c ≡ true → b || c ≡ true
or_true true c h = refl
or_true false c h = h

-- if one test passes, another one does
any_weaker : {X : Type 0} (p q : X → Bool) → ((x : X) → p x ≡ true → q x ≡ true) → (xs : List X) → list_any p xs ≡ true → list_any q xs ≡ true
any_weaker p q weaker [] h = h
any_weaker p q weaker (x ∷ xs) h = by_test (any_weaker p q weaker xs) (p x) refl h
  where
    by_test : (list_any p xs ≡ true → list_any q xs ≡ true) → (b : Bool) → p x ≡ b → b || list_any p xs ≡ true → q x || list_any q xs ≡ true
    by_test rest true is h = rw (weaker x is) refl
    by_test rest false is h = or_true (q x) (list_any q xs) (rest h)

any_either : {X : Type 0} (p q : X → Bool) (xs : List X) → list_any p xs ≡ false → list_any q xs ≡ false → list_any (λ x. p x || q x) xs ≡ false
any_either p q [] a b = refl
any_either p q (x ∷ xs) a b = grind (arith, any_either p q xs, a, b)

false_unless : (b : Bool) → (b ≡ true → ⊥) → b ≡ false
false_unless true h = absurd (h refl)
false_unless false h = refl

module _ {Y : Type 0} (names : BTreeMap (String Y) ℕ) (paths : BTreeSet (String Y)) (forms : List IndexForm) (found : AreFound names paths forms) (x : IndexForm) where
  name_absent : is_some (get_by_text names x.name) ≡ false → list_any (λ y. bytes_eq x.name y.name) forms ≡ false
  name_absent none = false_unless _ (λ some. let e = found.named x.name some in let f : true ≡ false = sym e ∙ none in cc)

  path_absent : contains_text paths (joined x.path) ≡ false → list_any (λ y. same_path x.path y.path) forms ≡ false
  path_absent none = false_unless _ (λ some.
      let texts = any_weaker (λ y. same_path x.path y.path) (λ y. bytes_eq (joined x.path) (joined y.path)) (λ y same. (bytes_eq-Decides (joined x.path) (joined y.path)).1 (ap joined (one-path x.path y.path same))) forms some in
      let f : true ≡ false = sym (found.pathed (joined x.path) texts) ∙ none in cc)

  pub none_same : is_some (get_by_text names x.name) ≡ false → list_any (is_same x) forms ≡ false
  none_same none = false_unless _ (λ some.
      let named = any_weaker (is_same x) (λ y. bytes_eq x.name y.name) (λ y same. let front = and_parts (bytes_eq x.name y.name && same_path x.path y.path) (beq x.unique y.unique) same in (and_parts (bytes_eq x.name y.name) (same_path x.path y.path) front.0).0) forms some in
      let f : true ≡ false = sym named ∙ name_absent none in cc)

  pub none_alike : is_some (get_by_text names x.name) ≡ false → contains_text paths (joined x.path) ≡ false → list_any (is_alike x) forms ≡ false
  none_alike a b = any_either (λ y. bytes_eq x.name y.name) (λ y. same_path x.path y.path) forms (name_absent a) (path_absent b)

-- ---- one more

abbrev AreNamed : {Y : Type 0} → BTreeMap (String Y) ℕ → List IndexForm → Type 0
AreNamed names forms = (name : List ℕ) → list_any (λ y. bytes_eq name y.name) forms ≡ true → is_some (get_by_text names name) ≡ true

abbrev ArePathed : {Y : Type 0} → BTreeSet (String Y) → List IndexForm → Type 0
ArePathed paths forms = (text : List ℕ) → list_any (λ y. bytes_eq text (joined y.path)) forms ≡ true → contains_text paths text ≡ true

some_still : (b : Bool) (v : ℕ) (o : Option ℕ) → is_some o ≡ true → is_some (cond b (Some v) o) ≡ true
some_still true v o h = refl
some_still false v o h = h

true_still : (b c : Bool) → c ≡ true → cond b true c ≡ true
true_still true c h = refl
true_still false c h = h

-- the last one passes, or one before
last_or : (a b : Bool) → a || (b || false) ≡ true → (a ≡ true) ⊎ (b ≡ true)
last_or true b h = inl refl
last_or false true h = inr refl
last_or false false h = absurd cc

module _ {Y : Type 0} (bs : List ℕ) (forms : List IndexForm) where
  module _ (v : ℕ) (m n : BTreeMap (String Y) ℕ) (updates : (cs : List ℕ) → get_by_text n cs ≡ cond (bytes_eq bs cs) (Some v) (get_by_text m cs)) (named : AreNamed m forms) where
    pub still_named : AreNamed n forms
    still_named name h = rw (updates name) (some_still (bytes_eq bs name) v (get_by_text m name) (named name h))

    pub named_too : (x : IndexForm) → bs ≡ x.name → AreNamed n (forms ++ x ∷ [])
    named_too x is name h = either (last_or (list_any (λ y. bytes_eq name y.name) forms) (bytes_eq name x.name) (rw list_any-append at h))
      where
        either : (list_any (λ y. bytes_eq name y.name) forms ≡ true) ⊎ (bytes_eq name x.name ≡ true) → is_some (get_by_text n name) ≡ true
        either (inl before) = still_named name before
        either (inr last) = rw (updates name, is, bytes_eq-symmetric x.name name, last) refl

  module _ (m n : BTreeSet (String Y)) (updates : (cs : List ℕ) → contains_text n cs ≡ cond (bytes_eq bs cs) true (contains_text m cs)) (pathed : ArePathed m forms) where
    pub still_pathed : ArePathed n forms
    still_pathed text h = rw (updates text) (true_still (bytes_eq bs text) (contains_text m text) (pathed text h))

    pub pathed_too : (x : IndexForm) → bs ≡ joined x.path → ArePathed n (forms ++ x ∷ [])
    pathed_too x is text h = either (last_or (list_any (λ y. bytes_eq text (joined y.path)) forms) (bytes_eq text (joined x.path)) (rw list_any-append at h))
      where
        either : (list_any (λ y. bytes_eq text (joined y.path)) forms ≡ true) ⊎ (bytes_eq text (joined x.path) ≡ true) → contains_text n text ≡ true
        either (inl before) = still_pathed text before
        either (inr last) = rw (updates text, is, bytes_eq-symmetric (joined x.path) text, last) refl

-- ---- one by its place

pub any_at : {X : Type 0} (p : X → Bool) (xs : List X) (place : ℕ) (x : X) → Some x ≡ slice_get xs place → p x ≡ true → list_any p xs ≡ true
any_at p [] place x here is = absurd cc
any_at p (y ∷ ys) zero x here is = let same : x ≡ y = cc in rw (← same, is) refl
any_at p (y ∷ ys) (suc place) x here is = or_true (p y) (list_any p ys) (any_at p ys place x here is)
