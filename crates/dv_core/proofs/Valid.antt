-- Documents that are valid at each of their levels: what is read out of them, and what is stored of them, is valid too.
use Rattle.std.proofs.Common.{◌≡◌, ℕ, Bool, true, false, List, [], ◌∷◌, Option, Some, None, Result, Ok, Err, if◌then◌else◌, refl, sym, subst}
use Rattle.std.specs.Prelude.{codes}
use Rattle.std.specs.Str.{bytes_eq}
use Rattle.dv_value.specs.Names.{value_under, has_name, AreNamed, without}
use Rattle.dv_value.specs.Spelling.{AreFields}
use Rattle.dv_value.specs.Tree.{Tree, array, Field, fields_of, list_of_fields}
use Rattle.dv_value.specs.Results.{◌>>=◌}
use Rattle.dv_value.specs.Inner.TreeLaws.{fields_again, under_valid}
use Rattle.dv_refusal.specs.declared.refusal.Refusal.{Refusal}
use Rattle.dv_refusal.specs.declared.refusal.Refusal.TheVariants.{BadValue, TooLarge}
use Rattle.dv_path.specs.Names.{has_bad_name}
use Rattle.dv_core.specs.Storable.{id_in, is_within_limits, with_id_first, storable}
use Rattle.dv_value.specs.Inner.NameLaws.{has_name-without}
use Rattle.dv_core.proofs.Stored.{without-gone}
use Rattle.dv_core.proofs.Texts.{IsUtf8-ascii}

valid_named : (fs : List Field) → AreFields (fields_of fs) → AreNamed fs
valid_named [] valid = tt
valid_named (f ∷ fs) valid = (valid.1, subst (λ (rest : List Field). has_name f.0 rest ≡ false) (fields_again fs) valid.2, valid_named fs valid.4)

kept_valid : (name : List ℕ) (f : Field) (fs : List Field) (b : Bool) → AreFields (fields_of (f ∷ fs)) → AreFields (fields_of (without name fs)) → AreFields (fields_of (if b then fs else f ∷ without name fs))
kept_valid name f fs true valid rest = valid.4
kept_valid name f fs false valid rest =
    (valid.0, valid.1, subst (λ (left : List Field). has_name f.0 left ≡ false) (sym (fields_again (without name fs))) (has_name-without f.0 name fs (valid_named (f ∷ fs) valid).1), valid.3, rest)

without_valid : (name : List ℕ) (fs : List Field) → AreFields (fields_of fs) → AreFields (fields_of (without name fs))
without_valid name [] valid = tt
without_valid name (f ∷ fs) valid = kept_valid name f fs (bytes_eq name f.0) valid (without_valid name fs valid.4)

first_valid : (d stored : List Field) → AreFields (fields_of d) → (id : Option Tree) → value_under (codes "_id") d ≡ id → (id_in id >>= λ given. Ok ((codes "_id", given) ∷ without (codes "_id") d)) ≡ Ok stored → AreFields (fields_of stored)
first_valid d stored valid None under is = absurd cc
first_valid d stored valid (Some (array vs)) under is = absurd cc
first_valid d stored valid (Some v) under is =
    let same : (codes "_id", v) ∷ without (codes "_id") d ≡ stored = cc in
    let rest = without (codes "_id") d in
    let fresh : has_name (codes "_id") (list_of_fields (fields_of rest)) ≡ false = subst (λ (fs : List Field). has_name (codes "_id") fs ≡ false) (sym (fields_again rest)) (without-gone (codes "_id") d (valid_named d valid)) in
    subst (λ (fs : List Field). AreFields (fields_of fs)) same (IsUtf8-ascii (codes "_id") refl, refl, fresh, under_valid (codes "_id") d v valid under, without_valid (codes "_id") d valid)

named_valid : (d stored : List Field) (b : Bool) → AreFields (fields_of d) → (if b then Err BadValue else id_in (value_under (codes "_id") d) >>= λ given. Ok ((codes "_id", given) ∷ without (codes "_id") d)) ≡ Ok stored → AreFields (fields_of stored)
named_valid d stored true valid is = absurd cc
named_valid d stored false valid is = first_valid d stored valid (value_under (codes "_id") d) refl is

within_same : (d stored : List Field) (b : Bool) → (if b then Ok d else Err TooLarge) ≡ Ok stored → d ≡ stored
within_same d stored true is = cc
within_same d stored false is = absurd cc

limited_valid : (d stored : List Field) (first : Result (List Field) Refusal) → ((e : List Field) → first ≡ Ok e → AreFields (fields_of e)) → (first >>= λ e. if is_within_limits e then Ok e else Err TooLarge) ≡ Ok stored → AreFields (fields_of stored)
limited_valid d stored (Ok e) valid is = subst (λ (fs : List Field). AreFields (fields_of fs)) (within_same e stored (is_within_limits e) is) (valid e refl)
limited_valid d stored (Err refusal) valid is = absurd cc

pub storable_valid : (d stored : List Field) → AreFields (fields_of d) → storable d ≡ Ok stored → AreFields (fields_of stored)
storable_valid d stored valid is =
    limited_valid d stored (with_id_first d) (λ e first. named_valid d e (has_bad_name d) valid first) is
