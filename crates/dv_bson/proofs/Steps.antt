-- What follows from a step of reading that did not fail, and how lists of bytes are split.
use Rattle.std.proofs.Common.{◌≡◌, ℕ, suc, ◌+◌, ◌<◌, ◌⊎◌, Bool, true, false, cond, List, ◌∷◌, ◌++◌, length, get_or, take, drop, Option, Some, None, Result, Ok, Err, refl, sym, ap, subst, ◌∙◌, inl, inr}
use Rattle.std.proofs.lemmas.List.{get_or-append-add, take-append-drop}
use Rattle.std.proofs.Math.Seq.{drop-cons}
use Rattle.dv_value.specs.declared.fault.BsonFault.{BsonFault}
use Rattle.dv_value.specs.Spelling.{IsBytes}
use Rattle.dv_value.specs.Results.{◌>>=◌}

-- the value of a step that did not fail
pub bind_ok : {A B : Type 0} (r : Result A BsonFault) (f : A → Result B BsonFault) (y : B) → (r >>= f) ≡ Ok y → (x : A) × (r ≡ Ok x) × (f x ≡ Ok y)
bind_ok (Ok x) f y e = (x, refl, e)
bind_ok (Err d) f y e = absurd cc

-- a step that gave a value
pub bind_at : {A B : Type 0} (r : Result A BsonFault) (f : A → Result B BsonFault) (x : A) (y : Result B BsonFault) → r ≡ Ok x → f x ≡ y → (r >>= f) ≡ y
bind_at {A} r f x y e h = ap (λ (s : Result A BsonFault). s >>= f) e ∙ h

-- tests that let reading go on
pub refused_not : {A : Type 0} (b : Bool) (d : BsonFault) (r : Result A BsonFault) (y : A) → cond b (Err d) r ≡ Ok y → (b ≡ false) × (r ≡ Ok y)
refused_not true d r y e = absurd cc
refused_not false d r y e = (refl, e)

pub passed : {A : Type 0} (b : Bool) (d : BsonFault) (r : Result A BsonFault) (y : A) → cond b r (Err d) ≡ Ok y → (b ≡ true) × (r ≡ Ok y)
passed true d r y e = (refl, e)
passed false d r y e = absurd cc

-- which way a test went
pub branched : {A : Type 0} (b : Bool) (x y z : A) → cond b x y ≡ z → ((b ≡ true) × (x ≡ z)) ⊎ ((b ≡ false) × (y ≡ z))
branched true x y z e = inl (refl, e)
branched false x y z e = inr (refl, e)

-- an option that had a value, if `None` is a fault
pub given : {X A : Type 0} (o : Option X) (f : Option X → Result A BsonFault) (d : BsonFault) (x : A) → f None ≡ Err d → f o ≡ Ok x → (n : X) × (o ≡ Some n) × (f (Some n) ≡ Ok x)
given None f d x none e = absurd cc
given (Some n) f d x none e = (n, refl, e)

abbrev pub done : {A : Type 0} → A → Result A BsonFault
done x = Ok x

pub ok_is : {A : Type 0} (x y : A) → done x ≡ done y → x ≡ y
ok_is x y e = cc

-- ---- bytes

pub IsBytes-rest : (b : ℕ) (bytes : List ℕ) → IsBytes (b ∷ bytes) → IsBytes bytes
IsBytes-rest b bytes h i = h (suc i)

pub IsBytes-behind : (bytes xs ys : List ℕ) → bytes ≡ xs ++ ys → IsBytes bytes → IsBytes ys
IsBytes-behind bytes xs ys e h i =
    let here : get_or (xs ++ ys) (length xs + i) 0 < 256 = subst (λ (b : List ℕ). get_or b (length xs + i) 0 < 256) e (h (length xs + i)) in
    rw (get_or-append-add xs ys i 0) at here

-- a zero splits the list in two
pub parted_at_zero : (bytes : List ℕ) (k : ℕ) → k < length bytes → get_or bytes k 0 ≡ 0 → bytes ≡ take k bytes ++ 0 ∷ drop (suc k) bytes
parted_at_zero bytes k lt z =
    let tail : drop k bytes ≡ 0 ∷ drop (suc k) bytes = drop-cons bytes k 0 lt ∙ ap (λ (b : ℕ). b ∷ drop (suc k) bytes) z in
    sym (take-append-drop k bytes) ∙ ap (λ (t : List ℕ). take k bytes ++ t) tail

-- what was taken from the front
pub record Takes (bytes text rest : List ℕ) : Type 0 where
  pub parts : bytes ≡ text ++ rest
  pub rest_fits : IsBytes rest
