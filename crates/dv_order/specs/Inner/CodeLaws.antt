-- Keys are ordered as their codes are, if these differ.
use Rattle.std.specs.Prelude.{◌≡◌, ◌⊎◌, ℕ, zero, suc, ◌+◌, ◌*◌, ◌<◌, nat_lt, ℤ, pos, negsuc, Bool, true, false, cond, List, [], ◌∷◌, refl}
use Rattle.std.proofs.Common.{inl, inr, ap, sym, ◌∙◌, arith}
use Rattle.std.proofs.lemmas.Bool.{cases_lt}
use Rattle.std.proofs.lemmas.Bool.Decides.{nat_tests}
use Rattle.std.specs.declared.cmp.Ordering.{Ordering}
use Rattle.std.specs.declared.cmp.Ordering.TheVariants.{Less, Equal}
use Rattle.std.specs.Ordering.{ordering_then, nat_cmp, int_cmp}
use Rattle.std.specs.Cmp.{nat_cmp_is, int_cmp_is}
use Rattle.std.specs.Cmp.Lexicographic.{slice_cmp}
use Rattle.dv_value.specs.Tree.{Tree, int32, int64, string, document, array, boolean, binary, object_id, date, null, timestamp, min_key, max_key}
use Rattle.dv_order.specs.Order.{class, order}
use Rattle.dv_order.specs.Key.{KeyTree, no_element, value, key_class, key_order}
use Rattle.dv_order.specs.Inner.SameOrder.{lower_class}
use Rattle.dv_order.specs.Codes.{digit, behind, lead, after, offset, value_high, value_low, key_high, key_low}

-- a number decides, or else what follows it
abbrev pub Ahead : ℕ → ℕ → List ℕ → List ℕ → Type 0
Ahead a c s t = (a < c) ⊎ ((a ≡ c) × (slice_cmp nat_cmp s t ≡ Less))

less : (b d : ℕ) (o : Ordering) → b < d → ordering_then (nat_cmp b d) o ≡ Less
less b d o h = ap (λ r. ordering_then r o) (sym (nat_cmp_is b d Less h))

equal : (b d : ℕ) (o : Ordering) → b ≡ d → o ≡ Less → ordering_then (nat_cmp b d) o ≡ Less
equal b d o e h = ap (λ r. ordering_then r o) (sym (nat_cmp_is b d Equal e)) ∙ h

in_byte : (b : ℕ) → nat_lt b 256 ≡ true → b < 256
in_byte b e = grind (arith, nat_tests)

no_byte : (b : ℕ) → nat_lt b 256 ≡ false → 255 < b
no_byte b e = grind (arith, nat_tests)

none_below : (s : List ℕ) → slice_cmp nat_cmp s [] ≡ Less → (G : Type 0) → G
none_below [] e G = absurd (cc)
none_below (b ∷ bs) e G = absurd (cc)

step : (x y : Bool) (a c b d : ℕ) (bs ds : List ℕ) → nat_lt b 256 ≡ x → nat_lt d 256 ≡ y →
    Ahead (a * 256 + cond x b 256) (c * 256 + cond y d 256) (cond x bs []) (cond y ds []) → Ahead a c (b ∷ bs) (d ∷ ds)
step true true a c b d bs ds p q (inl h) =
    elim (cases_lt a c) [ inl l ↦ inl l | inr l ↦ inr (omega (arith, in_byte b p, in_byte d q), less b d _ (omega (arith, in_byte b p, in_byte d q))) ]
step true true a c b d bs ds p q (inr h) =
    inr (omega (arith, in_byte b p, in_byte d q, h.0), equal b d _ (omega (arith, in_byte b p, in_byte d q, h.0)) h.1)
step true false a c b d bs ds p q (inl h) =
    elim (cases_lt a c) [ inl l ↦ inl l | inr l ↦ inr (omega (arith, in_byte b p), less b d _ (omega (arith, in_byte b p, no_byte d q))) ]
step true false a c b d bs ds p q (inr h) = none_below bs h.1 _
step false true a c b d bs ds p q (inl h) = inl (omega (arith, in_byte d q))
step false true a c b d bs ds p q (inr h) = inl (omega (arith, in_byte d q, h.0))
step false false a c b d bs ds p q (inl h) = inl (omega arith)
step false false a c b d bs ds p q (inr h) = none_below [] h.1 _

first_byte : (y : Bool) (a c d : ℕ) (ds : List ℕ) → nat_lt d 256 ≡ y → Ahead (a * 256) (c * 256 + cond y d 256) [] (cond y ds []) → Ahead a c [] (d ∷ ds)
first_byte true a c d ds q (inl h) =
    elim (cases_lt a c) [ inl l ↦ inl l | inr l ↦ inr (omega (arith, in_byte d q), refl) ]
first_byte true a c d ds q (inr h) =
    elim (cases_lt a c) [ inl l ↦ inl l | inr l ↦ inr (omega (arith, in_byte d q, h.0), refl) ]
first_byte false a c d ds q (inl h) =
    elim (cases_lt a c) [ inl l ↦ inl l | inr l ↦ inr (omega arith, refl) ]
first_byte false a c d ds q (inr h) = none_below [] h.1 _

last_byte : (x : Bool) (a c b : ℕ) (bs : List ℕ) → Ahead (a * 256 + cond x b 256) (c * 256) (cond x bs []) [] → Ahead a c (b ∷ bs) []
last_byte x a c b bs (inl h) = inl (omega arith)
last_byte x a c b bs (inr h) = none_below (cond x bs []) h.1 _

nothing_after : (n : ℕ) → after n [] ≡ []
nothing_after zero = refl
nothing_after (suc n) = refl

-- the numbers of so many bytes decide as the bytes do
pub ahead : (n a c : ℕ) (s t : List ℕ) → Ahead (lead n a s) (lead n c t) (after n s) (after n t) → Ahead a c s t
ahead zero a c s t h = h
ahead (suc n) a c [] [] h =
    elim (ahead n (a * 256) (c * 256) [] [] (rw (nothing_after n) h)) [ inl l ↦ inl (omega arith) | inr l ↦ none_below [] l.1 _ ]
ahead (suc n) a c [] (d ∷ ds) h = first_byte (nat_lt d 256) a c d ds refl (ahead n (a * 256) (c * 256 + digit d) [] (behind d ds) (rw (nothing_after n) h))
ahead (suc n) a c (b ∷ bs) [] h = last_byte (nat_lt b 256) a c b bs (ahead n (a * 256 + digit b) (c * 256) (behind b bs) [] (rw (nothing_after n) h))
ahead (suc n) a c (b ∷ bs) (d ∷ ds) h = step (nat_lt b 256) (nat_lt d 256) a c b d bs ds refl refl (ahead n (a * 256 + digit b) (c * 256 + digit d) (behind b bs) (behind d ds) h)

-- The first twelve bytes as two numbers, where these differ.
pub bytes_ahead : (s t : List ℕ) → (lead 8 0 s < lead 8 0 t) ⊎ ((lead 8 0 s ≡ lead 8 0 t) × (lead 4 0 (after 8 s) < lead 4 0 (after 8 t))) → slice_cmp nat_cmp s t ≡ Less
bytes_ahead s t h = elim (ahead 8 0 0 s t (by_two h)) [ inl l ↦ absurd (omega arith) | inr l ↦ l.1 ]
  where
    by_two : (lead 8 0 s < lead 8 0 t) ⊎ ((lead 8 0 s ≡ lead 8 0 t) × (lead 4 0 (after 8 s) < lead 4 0 (after 8 t))) → Ahead (lead 8 0 s) (lead 8 0 t) (after 8 s) (after 8 t)
    by_two (inl l) = inl l
    by_two (inr l) = inr (l.0, elim (ahead 4 0 0 (after 8 s) (after 8 t) (inl l.1)) [ inl m ↦ absurd (omega arith) | inr m ↦ m.1 ])

integers_ahead : (m n : ℤ) → offset m < offset n → int_cmp m n ≡ Less
integers_ahead (pos m) (pos n) h = sym (int_cmp_is (pos m) (pos n) Less (grind (arith, h)))
integers_ahead (pos m) (negsuc n) h = absurd (omega arith)
integers_ahead (negsuc m) (pos n) h = refl
integers_ahead (negsuc m) (negsuc n) h = sym (int_cmp_is (negsuc m) (negsuc n) Less (grind (arith, h)))

abbrev pub IsAhead : ℕ → ℕ → ℕ → ℕ → Type 0
IsAhead a b c d = (a < c) ⊎ ((a ≡ c) × (b < d))

level : (a c : ℕ) → IsAhead a 0 c 0 → a < c
level a c (inl h) = h
level a c (inr h) = absurd (omega (arith, h.1))

never : IsAhead 0 0 0 0 → (G : Type 0) → G
never (inl h) G = absurd (omega arith)
never (inr h) G = absurd (omega (arith, h.1))

value_ahead : (v w : Tree) → class v ≡ class w → IsAhead (value_high v) (value_low v) (value_high w) (value_low w) → order v w ≡ Less
value_ahead (int32 m) (int32 n) e h = integers_ahead m n (level _ _ h)
value_ahead (int32 m) (int64 n) e h = integers_ahead m n (level _ _ h)
value_ahead (int64 m) (int32 n) e h = integers_ahead m n (level _ _ h)
value_ahead (int64 m) (int64 n) e h = integers_ahead m n (level _ _ h)
value_ahead (date m) (date n) e h = integers_ahead m n (level _ _ h)
value_ahead (timestamp m) (timestamp n) e h = sym (nat_cmp_is m n Less (level _ _ h))
value_ahead (string s) (string t) e h = bytes_ahead s t h
value_ahead (object_id s) (object_id t) e h = bytes_ahead s t h
value_ahead (boolean false) (boolean true) e h = refl
value_ahead (boolean false) (boolean false) e h = never h _
value_ahead (boolean true) (boolean false) e h = absurd (omega (arith, level 1 0 h))
value_ahead (boolean true) (boolean true) e h = absurd (omega (arith, level 1 1 h))
value_ahead (document fs) (document gs) e h = never h _
value_ahead (array vs) (array ws) e h = never h _
value_ahead (binary s bs) (binary t cs) e h = never h _
value_ahead null null e h = never h _
value_ahead min_key min_key e h = never h _
value_ahead max_key max_key e h = never h _
value_ahead v w e h = cc

-- a key of a lower class is before another one
pub class_ahead : (k l : KeyTree) → key_class k < key_class l → key_order k l ≡ Less
class_ahead no_element no_element h = absurd (omega arith)
class_ahead no_element (value w) h = sym (nat_cmp_is 1 (class w) Less h)
class_ahead (value v) no_element h = sym (nat_cmp_is (class v) 1 Less h)
class_ahead (value v) (value w) h = lower_class v w h

no_class : (v : Tree) → class v ≡ 1 → (G : Type 0) → G
no_class (int32 n) e G = absurd (omega (arith, e))
no_class v e G = absurd (omega (arith, e))

-- and of two keys of one class the one whose numbers are less
pub key_ahead : (k l : KeyTree) → key_class k ≡ key_class l → IsAhead (key_high k) (key_low k) (key_high l) (key_low l) → key_order k l ≡ Less
key_ahead no_element no_element e h = never h _
key_ahead no_element (value w) e h = no_class w (sym e) _
key_ahead (value v) no_element e h = no_class v e _
key_ahead (value v) (value w) e h = value_ahead v w e h
