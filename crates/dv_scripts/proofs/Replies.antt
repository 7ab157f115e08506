-- Replies, one after the other.
use Rattle.std.proofs.Common.{◌≡◌, ℕ, ◌<◌, ◌≤◌, Bool, List, ◌∷◌, length, take, drop, nat_le, ◌&&◌, false, [], refl, sym, ap, ◌∙◌, arith, length-drop}
use Rattle.std.proofs.lemmas.Bool.{cond_both, leb-true, and_parts}
use Rattle.std.proofs.lemmas.List.{take-append-drop, length-take-le}
use Rattle.dv_message.specs.declared.fault.CloseFault.{CloseFault}
use Rattle.dv_wire.specs.declared.hub.Fed.{Fed}
use Rattle.dv_wire.specs.declared.hub.Fed.TheVariants as fed
use Rattle.dv_scripts.specs.Output.{AreReplies, fate_line, first_length, length_told}
use Rattle.dv_scripts.specs.Script.{is_closing}

abbrev tells_own : List ℕ → Bool
tells_own bytes = nat_le 4 (length_told bytes) && nat_le (length_told bytes) (length bytes)

-- the first reply is within the bytes, and not empty where they aren't
pub first_length-le : (bytes : List ℕ) → first_length bytes ≤ length bytes
unfolding first_length
first_length-le bytes = cond_both (tells_own bytes) (length_told bytes) (length bytes) (λ n. n ≤ length bytes)
    (λ e. leb-true (length_told bytes) (length bytes) (and_parts (nat_le 4 (length_told bytes)) (nat_le (length_told bytes) (length bytes)) e).1) (λ e. omega arith)

pub first_length-some : (bytes : List ℕ) → 0 < length bytes → 0 < first_length bytes
unfolding first_length
first_length-some bytes some = cond_both (tells_own bytes) (length_told bytes) (length bytes) (λ n. 0 < n)
    (λ e. let four = leb-true 4 (length_told bytes) (and_parts (nat_le 4 (length_told bytes)) (nat_le (length_told bytes) (length bytes)) e).0 in omega (arith, four)) (λ e. some)

pub fewer_behind : (bytes : List ℕ) → 0 < length bytes → length (drop (first_length bytes) bytes) < length bytes
fewer_behind bytes some =
    let inside = first_length-le bytes in
    let pos = first_length-some bytes some in
    let rest = length-drop (first_length bytes) bytes in
    omega (arith, rest)

-- where the others are replies, so are all
pub one_more_reply : (bytes reply others : List ℕ) (later : List (List ℕ)) → 0 < length bytes → reply ≡ take (first_length bytes) bytes → others ≡ drop (first_length bytes) bytes
    → AreReplies later others → AreReplies (reply ∷ later) bytes
one_more_reply bytes reply others later some er eo are =
    let long = length-take-le (first_length bytes) bytes (first_length-le bytes) in
    let pos = first_length-some bytes some in
    let size = ap length er ∙ long in
    (others, sym (take-append-drop (first_length bytes) bytes) ∙ cc, size, omega (arith, size), are)

-- ---- what a session then is

pub no_fate : (number : ℕ) (told : Fed) → ((fault : CloseFault) → told ≡ fed.Closed fault → ⊥) → fate_line number told ≡ []
no_fate number fed.Open other = refl
no_fate number (fed.Closed fault) other = absurd (other fault refl)
no_fate number fed.Unknown other = refl

pub not_closing : (told : Fed) → ((fault : CloseFault) → told ≡ fed.Closed fault → ⊥) → is_closing told ≡ false
not_closing fed.Open other = refl
not_closing (fed.Closed fault) other = absurd (other fault refl)
not_closing fed.Unknown other = refl
