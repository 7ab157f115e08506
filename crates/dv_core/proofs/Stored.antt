-- A document with one of its fields moved to the front.
use Rattle.std.specs.Prelude.{◌≡◌, ℕ, ◌≤◌, ◌&&◌, ◌↔◌, IsTrue, not, nat_lt, Bool, true, false, if◌then◌else◌, List, [], ◌∷◌, ◌++◌, length, slice_get, Option, Result, Ok, Err, Some, None, suc, refl, codes}
use Rattle.std.specs.Str.{bytes_eq}
use Rattle.std.proofs.Common.{ap, sym, ◌∙◌, subst, arith, append_assoc}
use Rattle.std.proofs.lemmas.List.{append-nil}
use Rattle.std.proofs.lemmas.Bool.Decides.{nat_tests}
use Rattle.std.proofs.lemmas.Slice.Eq.{bytes_eq-Decides}
use Rattle.dv_value.specs.Tree.{Tree, document, array, Field, fields_of}
use Rattle.dv_value.specs.Names.{value_under, has_name, has_zero, AreNamed, without}
use Rattle.dv_value.specs.Spelling.{spelling, fields_levels, levels, Fits}
use Rattle.dv_value.specs.Inner.ByteLaws.{bytes_eq-symmetric}
use Rattle.dv_value.specs.Inner.NameLaws.{AreNamed-without, named_apart, without_missing}
use Rattle.dv_core.proofs.Spellings.{spelling-field}
use Rattle.dv_refusal.specs.declared.refusal.Refusal.{Refusal}
use Rattle.dv_refusal.specs.declared.refusal.Refusal.TheVariants.{TooLarge}
use Rattle.dv_value.specs.Results.{◌>>=◌}
use Rattle.dv_core.specs.Storable.{id_in, is_within_limits, with_id_first, storable}

-- ---- a document without one of its fields

pub without-gone : (name : List ℕ) (fs : List Field) → AreNamed fs → has_name name (without name fs) ≡ false
without-gone name [] named = refl
without-gone name (f ∷ fs) named = grind (arith, without-gone name fs, (bytes_eq-Decides name f.0).0)

-- ---- the fields left to copy after `_id`

-- the copy so far, followed by the remaining fields without `_id`, is the document with `_id` as its first field
pub record IsCopied (first : Field) (d copy left : List Field) : Type 0 where
  pub whole : copy ++ without (codes "_id") left ≡ first ∷ without (codes "_id") d
  pub apart : AreNamed (copy ++ without (codes "_id") left)
  pub named : AreNamed left

pub nothing_copied : (id : Tree) (d copy : List Field) → AreNamed d → copy ≡ (codes "_id", id) ∷ [] → IsCopied (codes "_id", id) d copy d
nothing_copied id d copy named is =
    rw is (record { whole = refl; apart = (refl, without-gone (codes "_id") d named, AreNamed-without (codes "_id") d named); named = named })

module _ {first : Field} {d copy left : List Field} (copied : IsCopied first d copy left) where
  pub all_copied : left ≡ [] → copy ≡ first ∷ without (codes "_id") d
  all_copied over = sym (append-nil copy) ∙ ap (λ (rest : List Field). copy ++ without (codes "_id") rest) (sym over) ∙ copied.whole

  module _ (f : Field) (next : List Field) (here : left ≡ f ∷ next) where
    named_here : AreNamed (f ∷ next)
    named_here = subst AreNamed here copied.named

    left_here : copy ++ without (codes "_id") left ≡ copy ++ (if bytes_eq (codes "_id") f.0 then next else f ∷ without (codes "_id") next)
    left_here = ap (λ (rest : List Field). copy ++ without (codes "_id") rest) here

    pub IsCopied-id : false ≡ not (bytes_eq f.0 (codes "_id")) → IsCopied first d copy next
    IsCopied-id test =
        let id : bytes_eq (codes "_id") f.0 ≡ true = grind (arith, bytes_eq-symmetric (codes "_id") f.0) in
        let fresh : has_name (codes "_id") next ≡ false = rw (← (bytes_eq-Decides (codes "_id") f.0).0 id) at named_here.1 in
        let same : copy ++ without (codes "_id") left ≡ copy ++ without (codes "_id") next = rw (without_missing (codes "_id") next fresh) (rw id at left_here) in
        record { whole = sym same ∙ copied.whole; apart = subst AreNamed same copied.apart; named = named_here.2 }

    pub whole_name : has_zero f.0 ≡ false
    whole_name = named_here.0

    module _ (test : true ≡ not (bytes_eq f.0 (codes "_id"))) where
      kept_here : copy ++ without (codes "_id") left ≡ copy ++ f ∷ without (codes "_id") next
      kept_here = let other : bytes_eq (codes "_id") f.0 ≡ false = grind (arith, bytes_eq-symmetric (codes "_id") f.0) in rw other at left_here

      pub fresh_name : has_name f.0 copy ≡ false
      fresh_name = named_apart copy (without (codes "_id") next) f (subst AreNamed kept_here copied.apart)

      pub IsCopied-more : IsCopied first d (copy ++ f ∷ []) next
      IsCopied-more =
          let same : copy ++ without (codes "_id") left ≡ (copy ++ f ∷ []) ++ without (codes "_id") next = kept_here ∙ sym (append_assoc copy (f ∷ []) (without (codes "_id") next)) in
          record { whole = sym same ∙ copied.whole; apart = subst AreNamed same copied.apart; named = named_here.2 }

-- if `_id` is the first field, nothing is moved
pub first_already : (d : List Field) (name : List ℕ) (value id : Tree) → Some (name, value) ≡ slice_get d 0 → true ≡ bytes_eq name (codes "_id") → value_under (codes "_id") d ≡ Some id
    → d ≡ (codes "_id", id) ∷ without (codes "_id") d
first_already [] name value id here is under = absurd cc
first_already (f ∷ fs) name value id here is under =
    let same : f ≡ (name, value) = cc in
    grind (arith, ap (λ (g : Field). g.0) same, bytes_eq-symmetric (codes "_id") name, (bytes_eq-Decides (codes "_id") f.0).0)

-- ---- the limits, which don't depend on the order of fields

record IsAsLarge (d e : List Field) : Type 0 where
  size : length (spelling d) ≡ length (spelling e)
  depth : fields_levels (fields_of d) ≡ fields_levels (fields_of e)

-- the first two fields, the other way round
around : (f g : Field) (fs gs : List Field) → IsAsLarge (g ∷ fs) gs → IsAsLarge (g ∷ f ∷ fs) (f ∷ gs)
around f g fs gs same = record {
  size = omega (arith, spelling-field g (f ∷ fs), spelling-field f fs, spelling-field g fs, spelling-field f gs, same.size);
  depth = omega (arith, same.depth);
}

moved_by : (name : List ℕ) (value : Tree) (f : Field) (fs : List Field) (test : Bool) → bytes_eq name f.0 ≡ test → (value_under name fs ≡ Some value → IsAsLarge ((name, value) ∷ without name fs) fs)
    → value_under name (f ∷ fs) ≡ Some value → IsAsLarge ((name, value) ∷ without name (f ∷ fs)) (f ∷ fs)
moved_by name value f fs true is rest under =
    let name_is : name ≡ f.0 = (bytes_eq-Decides name f.0).0 is in
    let value_is : Some f.1 ≡ Some value = rw is at under in
    let fields : value ≡ f.1 = cc in
    let same : (name, value) ≡ f = λ i. (name_is i, fields i) in
    rw is (record { size = ap (λ (g : Field). length (spelling (g ∷ fs))) same; depth = ap (λ (g : Field). fields_levels (fields_of (g ∷ fs))) same })
moved_by name value f fs false is rest under = rw is (around f (name, value) (without name fs) fs (rest (rw is at under)))

moved_large : (name : List ℕ) (value : Tree) (d : List Field) → value_under name d ≡ Some value → IsAsLarge ((name, value) ∷ without name d) d
moved_large name value [] under = absurd cc
moved_large name value (f ∷ fs) under = moved_by name value f fs (bytes_eq name f.0) refl (moved_large name value fs) under

id_shown : (under : Option Tree) (id : Tree) → id_in under ≡ Ok id → under ≡ Some id
id_shown None id e = absurd cc
id_shown (Some (array vs)) id e = absurd cc
id_shown (Some value) id e = cc

limits_told : (n m a b : ℕ) (told : Bool) → (IsTrue told → (n ≤ a) × (m ≤ b)) → ((n ≤ a) × (m ≤ b) → IsTrue told) → (not (nat_lt a n) && not (nat_lt b m)) ≡ told
limits_told n m a b true within told = grind (arith, nat_tests, within refl)
limits_told n m a b false within told = grind (arith, nat_tests)

limits_of : (n m : ℕ) → (not (nat_lt 16777216 n) && not (nat_lt 100 m)) ≡ true → (n ≤ 16777216) × (m ≤ 100)
limits_of n m e = grind (arith, nat_tests)

limits_hold : (n m : ℕ) → n ≤ 16777216 → m ≤ 100 → (not (nat_lt 16777216 n) && not (nat_lt 100 m)) ≡ true
limits_hold n m size depth = grind (arith, nat_tests)

pub within_limits_fits : (d : List Field) → (is_within_limits d ≡ true) ↔ Fits d
within_limits_fits d = (
  (λ within. let both = limits_of (length (spelling d)) (levels (document (fields_of d))) within in record { size = both.0; depth = both.1 }),
  (λ fits. limits_hold (length (spelling d)) (levels (document (fields_of d))) fits.size fits.depth),
)

pub moved_within : (id : Tree) (d : List Field) (told : Bool) → id_in (value_under (codes "_id") d) ≡ Ok id → IsTrue told ↔ Fits d → is_within_limits ((codes "_id", id) ∷ without (codes "_id") d) ≡ told
moved_within id d told is fits =
    let same = moved_large (codes "_id") id d (id_shown (value_under (codes "_id") d) id is) in
    (λ i. not (nat_lt 16777216 (same.size i)) && not (nat_lt 100 (suc (same.depth i))))
    ∙ limits_told (length (spelling d)) (levels (document (fields_of d))) 16777216 100 told (λ t. ((fits.0 t).size, (fits.0 t).depth)) (λ both. fits.1 (record { size = both.0; depth = both.1 }))

fits_within : (d stored : List Field) (b : Bool) → is_within_limits d ≡ b → (if b then Ok d else Err TooLarge) ≡ Ok stored → Fits stored
fits_within d stored true within e =
    let same : d ≡ stored = cc in
    subst Fits same ((within_limits_fits d).0 within)
fits_within d stored false within e = absurd cc

fits_first : (first : Result (List Field) Refusal) (stored : List Field) → (first >>= λ d. if is_within_limits d then Ok d else Err TooLarge) ≡ Ok stored → Fits stored
fits_first (Ok d) stored e = fits_within d stored (is_within_limits d) refl e
fits_first (Err refusal) stored e = absurd cc

pub storable_fits : (d stored : List Field) → storable d ≡ Ok stored → Fits stored
storable_fits d stored e = fits_first (with_id_first d) stored e
