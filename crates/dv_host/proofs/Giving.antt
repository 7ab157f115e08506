-- Bytes that are sent one part after the other.
use Rattle.std.proofs.Common.{◌≡◌, ℕ, ◌+◌, ◌-◌, ◌≤◌, List, [], ◌++◌, Option, length, take, drop, sym, ap, subst, ◌∙◌, arith, length-drop, append_assoc, append-nil, Some, None}
use Rattle.std.proofs.Math.Seq.{take-add}
use Rattle.std.proofs.lemmas.List.{take_all}
use Rattle.dv_host.specs.Channel.{Gains}

pub Gains-nil : (a : Option (List ℕ)) → Gains a a []
Gains-nil None = tt
Gains-nil (Some x) = sym (append-nil x)

pub Gains-trans : (a b c : Option (List ℕ)) (bs cs : List ℕ) → Gains a b bs → Gains b c cs → Gains a c (bs ++ cs)
Gains-trans None None None bs cs p q = tt
Gains-trans None None (Some z) bs cs p q = absurd q
Gains-trans None (Some y) c bs cs p q = absurd p
Gains-trans (Some x) None c bs cs p q = absurd p
Gains-trans (Some x) (Some y) None bs cs p q = absurd q
Gains-trans (Some x) (Some y) (Some z) bs cs p q = q ∙ ap (λ (l : List ℕ). l ++ cs) p ∙ append_assoc x bs cs

-- so many of the bytes are sent
pub record HasGiven (before now : Option (List ℕ)) (bytes : List ℕ) (count : ℕ) : Type 0 where
  pub within : count ≤ length bytes
  pub taken : Gains before now (take count bytes)

pub none_given : (before : Option (List ℕ)) (bytes : List ℕ) → HasGiven before before bytes 0
none_given before bytes = record { within = omega arith; taken = Gains-nil before }

-- the slice after the first bytes
pub rest_is : (bytes : List ℕ) (count : ℕ) → take (length bytes - count) (drop count bytes) ≡ drop count bytes
rest_is bytes count = take_all (length bytes - count) (drop count bytes) (omega (arith, length-drop count bytes))

pub rest_of : (all bytes : List ℕ) (count : ℕ) → all ≡ bytes → take (length all - count) (drop count all) ≡ drop count bytes
rest_of all bytes count same = rest_is all count ∙ ap (drop count) same

pub more_given : (before now after : Option (List ℕ)) (bytes rest : List ℕ) (count more : ℕ) → HasGiven before now bytes count → rest ≡ drop count bytes → more ≤ length rest → Gains now after (take more rest)
    → HasGiven before after bytes (count + more)
more_given before now after bytes rest count more given is few taken =
    let few' : more ≤ length (drop count bytes) = subst (λ (r : List ℕ). more ≤ length r) is few in
    record {
      within = omega (arith, given.within, few', length-drop count bytes);
      taken = subst (Gains before after) (sym (take-add count more bytes))
          (Gains-trans before now after (take count bytes) (take more (drop count bytes)) given.taken (subst (λ (r : List ℕ). Gains now after (take more r)) is taken));
    }
