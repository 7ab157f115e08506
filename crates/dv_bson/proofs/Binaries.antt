-- Binaries: the bytes that are read are the encoding of the result, and an encoding is read again.
use Rattle.std.proofs.Common.{◌≡◌, ℕ, ◌+◌, ◌<◌, ◌≤◌, false, ltb, ◌||◌, List, [], ◌∷◌, ◌++◌, length, take, drop, Ok, refl, sym, ap, subst, ◌∙◌, append_assoc, arith}
use Rattle.std.specs.Int.{w32, to_le_bytes, from_le_bytes}
use Rattle.std.proofs.lemmas.Bool.{ltb-false, le-ltb, or_parts}
use Rattle.std.proofs.lemmas.List.{take_at, drop_at, take-append-drop, length-append, length-take}
use Rattle.dv_value.specs.declared.fault.BsonFault.TheVariants.{BadLength}
use Rattle.dv_value.specs.Tree.{Tree, binary}
use Rattle.dv_value.specs.Spelling.{IsBytes, tagged}
use Rattle.dv_value.specs.Inner.ByteLaws.{IsBytes-drop, IsBytes-take}
use Rattle.dv_bson.specs.Reading.{tagged_at, binary_at}
use Rattle.dv_bson.proofs.Steps.{IsBytes-rest, Takes, refused_not, ok_is}
use Rattle.dv_bson.proofs.Numbers.{wide32}

pub record TakesBinary (bytes : List ℕ) (x : Tree × List ℕ) : Type 0 where
  pub subtype : ℕ
  pub own : List ℕ
  pub is : binary subtype own ≡ x.0
  pub byte : subtype < 256
  pub fits : IsBytes own
  pub takes : Takes bytes (tagged subtype own) x.1

-- the subtype and the bytes, after the bytes of a count
tagged_takes : (count behind : List ℕ) (n : ℕ) (x : Tree × List ℕ) → IsBytes behind → count ≡ to_le_bytes w32 n → tagged_at n behind ≡ Ok x → TakesBinary (count ++ behind) x
unfolding tagged
tagged_takes count [] n x fits is e = absurd cc
tagged_takes count (subtype ∷ bytes) n x fits is e =
    let g = refused_not (ltb 2147483647 n || ltb (length bytes) n) BadLength _ x e in
    let within : n ≤ length bytes = ltb-false _ _ (or_parts (ltb 2147483647 n) (ltb (length bytes) n) g.0).1 in
    let own = take n bytes in
    let rest = drop n bytes in
    let counted : count ≡ to_le_bytes w32 (length own) = is ∙ ap (to_le_bytes w32) (omega (arith, length-take n bytes)) in
    let parts : count ++ subtype ∷ bytes ≡ (to_le_bytes w32 (length own) ++ subtype ∷ own) ++ rest =
    ap (λ (t : List ℕ). count ++ subtype ∷ t) (sym (take-append-drop n bytes)) ∙ ap (λ (c : List ℕ). c ++ subtype ∷ (own ++ rest)) counted ∙ sym (append_assoc (to_le_bytes w32 (length own)) (subtype ∷ own) rest) in
    let behind = IsBytes-rest subtype bytes fits in
    subst (λ (y : Tree × List ℕ). TakesBinary (count ++ subtype ∷ bytes) y) (ok_is (binary subtype own, rest) x g.1)
    (record { subtype = subtype; own = own; is = refl; byte = fits 0; fits = IsBytes-take n bytes behind; takes = record { parts = parts; rest_fits = IsBytes-drop n bytes behind } })

pub binary_takes : (bytes : List ℕ) (x : Tree × List ℕ) → IsBytes bytes → binary_at bytes ≡ Ok x → TakesBinary bytes x
unfolding binary_at
binary_takes bytes x fits e =
    let g = refused_not (ltb (length bytes) 4) BadLength _ x e in
    let long : 4 ≤ length bytes = ltb-false _ _ g.0 in
    let count = take 4 bytes in
    let spelled : count ≡ to_le_bytes w32 (from_le_bytes w32 count) = sym (wide32.back count (omega (arith, length-take 4 bytes)) (IsBytes-take 4 bytes fits)) in
    subst (λ (whole : List ℕ). TakesBinary whole x) (take-append-drop 4 bytes) (tagged_takes count (drop 4 bytes) (from_le_bytes w32 count) x (IsBytes-drop 4 bytes fits) spelled g.1)

binary_front : (count own rest : List ℕ) (subtype : ℕ) → length count ≡ 4 → from_le_bytes w32 count ≡ length own → length own < 2147483648 → binary_at (count ++ subtype ∷ (own ++ rest)) ≡ Ok (binary subtype own, rest)
unfolding binary_at
binary_front count own rest subtype len value lt =
    let behind = subtype ∷ (own ++ rest) in
    let long : ltb (length (count ++ behind)) 4 ≡ false = le-ltb _ _ (omega (arith, length-append count behind)) in
    let small : ltb 2147483647 (length own) ≡ false = le-ltb _ _ (omega arith) in
    let enough : ltb (length (own ++ rest)) (length own) ≡ false = le-ltb _ _ (omega (arith, length-append own rest)) in
    rw (long, take_at count behind 4 len, drop_at count behind 4 len, value, small, enough, take_at own rest (length own) refl, drop_at own rest (length own) refl) refl

pub binary_again : (subtype : ℕ) (own rest : List ℕ) → length own < 2147483648 → binary_at (tagged subtype own ++ rest) ≡ Ok (binary subtype own, rest)
unfolding tagged
binary_again subtype own rest lt =
    let count = to_le_bytes w32 (length own) in
    ap binary_at (append_assoc count (subtype ∷ own) rest) ∙ binary_front count own rest subtype (wide32.len (length own)) (wide32.again (length own) (omega arith)) lt
