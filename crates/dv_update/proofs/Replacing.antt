-- The fields of a replacement after its `_id`.
use Rattle.std.proofs.Common.{◌≡◌, ◌∙◌, ap, sym, refl, List, [], ◌∷◌, ◌++◌, ℕ, Bool, true, false, ◌||◌, not, Option, Some, None, append-nil, codes, subst, if◌then◌else◌}
use Rattle.std.specs.Str.{bytes_eq}
use Rattle.std.proofs.lemmas.Bool.{or_from, or_parts}
use Rattle.dv_value.specs.Names.{has_name, has_zero, AreNamed}
use Rattle.dv_value.specs.Tree.{Tree, Field}
use Rattle.dv_value.specs.Inner.ByteLaws.{bytes_eq-symmetric}
use Rattle.dv_value.specs.Inner.NameLaws.{named_apart, named_whole}
use Rattle.dv_update.specs.Apply.{is_id, others, with_id}

has_name-kept : (b : Bool) (name : List ℕ) (f : Field) (fs : List Field) → (bytes_eq name f.0 || has_name name fs) ≡ false → has_name name (others fs) ≡ false → has_name name (if b then f ∷ others fs else others fs) ≡ false
has_name-kept true name f fs h rest = or_from _ _ (or_parts _ _ h).0 rest
has_name-kept false name f fs h rest = rest

pub has_name-others : (name : List ℕ) (fs : List Field) → has_name name fs ≡ false → has_name name (others fs) ≡ false
has_name-others name [] h = refl
has_name-others name (f ∷ fs) h = has_name-kept (not (is_id f)) name f fs h (has_name-others name fs (or_parts _ _ h).1)

named-kept : (b : Bool) (f : Field) (fs : List Field) → AreNamed (f ∷ fs) → AreNamed (others fs) → AreNamed (if b then f ∷ others fs else others fs)
named-kept true f fs named rest = (named.0, has_name-others f.0 fs named.1, rest)
named-kept false f fs named rest = rest

AreNamed-others : (fs : List Field) → AreNamed fs → AreNamed (others fs)
AreNamed-others [] named = named
AreNamed-others (f ∷ fs) named = named-kept (not (is_id f)) f fs named (AreNamed-others fs named.2)

no-id-kept : (b : Bool) (f : Field) (fs : List Field) → bytes_eq (codes "_id") f.0 ≡ b → has_name (codes "_id") (others fs) ≡ false → has_name (codes "_id") (if not b then f ∷ others fs else others fs) ≡ false
no-id-kept true f fs is rest = rest
no-id-kept false f fs is rest = or_from _ _ is rest

pub no-id : (fs : List Field) → has_name (codes "_id") (others fs) ≡ false
no-id [] = refl
no-id (f ∷ fs) = no-id-kept (is_id f) f fs (bytes_eq-symmetric (codes "_id") f.0) (no-id fs)

-- the fields so far, and what is left without `_id`
pub record IsReplaced (id : Option Tree) (fields copy left : List Field) : Type 0 where
  pub whole : copy ++ others left ≡ with_id id (others fields)
  pub apart : AreNamed (copy ++ others left)

pub id_replaced : (id : Option Tree) (fields copy : List Field) → AreNamed fields → copy ≡ with_id id [] → IsReplaced id fields copy fields
id_replaced None fields copy named is = rw is (record { whole = refl; apart = AreNamed-others fields named })
id_replaced (Some v) fields copy named is = rw is (record { whole = refl; apart = (refl, no-id fields, AreNamed-others fields named) })

module _ {id : Option Tree} {fields copy left : List Field} (so-far : IsReplaced id fields copy left) (f : Field) (rest : List Field) (here : left ≡ f ∷ rest) where
  joined : is_id f ≡ false → AreNamed (copy ++ f ∷ others rest)
  joined is = subst AreNamed (ap (λ l. copy ++ others l) here ∙ ap (λ b. copy ++ (if not b then f ∷ others rest else others rest)) is) so-far.apart

  pub whole_name : is_id f ≡ false → has_zero f.0 ≡ false
  whole_name is = named_whole copy (others rest) f (joined is)

  pub fresh_name : is_id f ≡ false → has_name f.0 copy ≡ false
  fresh_name is = named_apart copy (others rest) f (joined is)

pub all_replaced : {id : Option Tree} {fields copy left : List Field} → IsReplaced id fields copy left → left ≡ [] → copy ≡ with_id id (others fields)
all_replaced {id} {fields} {copy} {left} so-far none = sym (append-nil copy) ∙ ap (λ l. copy ++ others l) (sym none) ∙ so-far.whole

pub denied : (b : Bool) → true ≡ not b → b ≡ false
denied true h = cc
denied false h = refl
