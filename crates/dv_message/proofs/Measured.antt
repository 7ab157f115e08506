-- The bytes of a reply, and the length that is put into them.
use Rattle.std.proofs.Common.{◌≡◌, ℕ, ◌+◌, ◌-◌, List, [], ◌∷◌, ◌++◌, length, take, drop, refl, sym, ap, ◌∙◌, append_assoc, arith}
use Rattle.std.specs.Int.{w32, to_le_bytes}
use Rattle.std.proofs.lemmas.List.{take_at, drop_at, drop-drop, length-append}
use Rattle.dv_message.specs.Message.{message_spelling}
use Rattle.dv_message.specs.Inner.View.{unmeasured}

-- the rest comes after the header
pub behind_header : (old header body : List ℕ) (response_to : ℕ) → header ≡ unmeasured response_to (0 ∷ []) → (old ++ header) ++ body ≡ old ++ unmeasured response_to (0 ∷ body)
behind_header old header body response_to is_header = ap (λ (h : List ℕ). (old ++ h) ++ body) is_header ∙ append_assoc old (unmeasured response_to (0 ∷ [])) body

pub unmeasured-length : (old all body : List ℕ) (response_to : ℕ) → all ≡ old ++ unmeasured response_to (0 ∷ body) → length all ≡ length old + (length body + 21)
unmeasured-length old all body response_to is_all = omega (arith, ap length is_all, length-append old (unmeasured response_to (0 ∷ body)))

-- the length is put in after the old bytes
measure : (old body : List ℕ) (response_to : ℕ) →
    let all = old ++ unmeasured response_to (0 ∷ body) in
    take (length old) all ++ (to_le_bytes w32 (length all - length old) ++ drop (length old + 4) all) ≡ old ++ message_spelling 0 response_to 0 (0 ∷ body)
unfolding message_spelling
measure old body response_to =
    let whole : List ℕ = unmeasured response_to (0 ∷ body) in
    let long : length (old ++ whole) - length old ≡ length (0 ∷ body) + 20 = omega (arith, length-append old whole) in
    let behind : drop (length old + 4) (old ++ whole) ≡ drop 4 whole = sym (drop-drop 4 (length old) (old ++ whole)) ∙ ap (drop 4) (drop_at old whole (length old) refl) in
    rw (take_at old whole (length old) refl, long, behind) refl

-- the same, in terms of a vector's length and items
pub put_in : (old body all put : List ℕ) (response_to start len : ℕ) → all ≡ old ++ unmeasured response_to (0 ∷ body) → start ≡ length old → len ≡ length all
    → put ≡ take start all ++ (to_le_bytes w32 (length all - start) ++ drop (start + 4) all) → length put ≡ length all
    → take len (put ++ drop (length put) all) ≡ old ++ message_spelling 0 response_to 0 (0 ∷ body)
put_in old body all put response_to start len is_all is_start is_len is_put same =
    let whole : put ≡ old ++ message_spelling 0 response_to 0 (0 ∷ body) = is_put ∙ rw (is_start, is_all) (measure old body response_to) in
    take_at put (drop (length put) all) len (same ∙ sym is_len) ∙ whole
