-- Results: a value, or a fault.
use Rattle.std.specs.Prelude.{◌≡◌, ◌⊎◌, List, [], ◌∷◌, Result, Ok, Err}

-- runs a step, then the next with the value of the first; the first fault is the result
infixl 10 ◌>>=◌
abbrev pub ◌>>=◌ : {A B E : Type 0} → Result A E → (A → Result B E) → Result B E
(Ok x) >>= f = f x
(Err e) >>= f = Err e

-- f applied to each item in turn: the list of results, or the first fault
abbrev pub each : {X Y E : Type 0} → (X → Result Y E) → List X → Result (List Y) E
each f [] = Ok []
each f (x ∷ xs) = f x >>= λ y. each f xs >>= λ ys. Ok (y ∷ ys)

-- the call returned the defined result, or ran out of memory, as this fault says; `view` says what a value in memory represents
abbrev pub Gives : {X Y E : Type 0} → E → (X → Y) → Result X E → Result Y E → Type 0
Gives no_memory view (Ok x) defined = defined ≡ Ok (view x)
Gives no_memory view (Err e) defined = (e ≡ no_memory) ⊎ (defined ≡ Err e)
