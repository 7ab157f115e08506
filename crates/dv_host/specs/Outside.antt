-- Connections that arrive and are closed.
use Rattle.std.specs.Prelude.{◌≡◌, ℕ, suc, List, [], ◌∷◌, ◌++◌, Option, Some, None, Result, Ok, Err, ⊤, IfSome}
use Rattle.dv_host.specs.declared.link.Fate.{Fate}

-- a closed connection: the bytes of its input that were left and the bytes that it took, if they are known; and how it ended
pub record Closed : Type 0 where
  pub left : Option (List ℕ)
  pub taken : Option (List ℕ)
  pub fate : Fate

-- the next connection arrives with these bytes, if they are known
abbrev pub Accepts : Option (List (List ℕ)) → Option (List ℕ) → Option (List (List ℕ)) → Type 0
Accepts None known new = ⊤
Accepts (Some []) known new = ⊥
Accepts (Some (bytes ∷ others)) known new = (known ≡ Some bytes) × (new ≡ Some others)

-- the connection has taken these bytes, if they are known
abbrev pub HasTaken : Option (List ℕ) → List ℕ → Type 0
HasTaken known bytes = IfSome known (λ taken. taken ≡ bytes)

-- a connection arrives, or none does
abbrev pub MayAccept : {C : Type 0} → (C → Option (List ℕ)) → (C → Option (List ℕ)) → Option C → Option (List (List ℕ)) → Option (List (List ℕ)) → Type 0
MayAccept remaining contents None old new = new ≡ old
MayAccept remaining contents (Some channel) old new = Accepts old (remaining channel) new × HasTaken (contents channel) []

-- the number of a connection that arrives is the number of connections so far, itself included
abbrev pub IsNumbered : {C E : Type 0} → (C → ℕ) → Result (Option C) E → ℕ → ℕ → Type 0
IsNumbered number (Ok (Some channel)) old new = (number channel ≡ suc old) × (new ≡ suc old)
IsNumbered number (Ok None) old new = new ≡ old
IsNumbered number (Err fault) old new = new ≡ old

-- one more connection is closed
abbrev pub Closes : Option (List Closed) → Option (List ℕ) → Option (List ℕ) → Fate → Option (List Closed) → Type 0
Closes None left taken fate new = ⊤
Closes (Some before) left taken fate new = new ≡ Some (before ++ record { left = left; taken = taken; fate = fate } ∷ [])
