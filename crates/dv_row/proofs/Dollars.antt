-- The clause of `strip_prefix` at a dollar sign.
use Rattle.std.proofs.Common.{◌≡◌, ◌≢◌, ◌∙◌, ◌==◌, ap, sym, refl, Bool, true, false, List, [], ◌∷◌, ℕ, Option, Some, None, MatchOption, Bor, arith}
use Rattle.std.proofs.lemmas.Bool.Decides.{nat_tests}
use Rattle.std.specs.Option.{option_map}
use Rattle.dv_row.specs.Parsing.{behind_dollar}

behind-here : (c : List ℕ) → behind_dollar (36 ∷ c) ≡ Some c
behind-here c = refl

pub behind_dollar-from : (bs : List ℕ) (r : Option (Bor (List ℕ))) → MatchOption r ((rest : List ℕ) → bs ≢ 36 ∷ rest) (λ x. bs ≡ 36 ∷ x.now) → option_map (λ s. s.now) r ≡ behind_dollar bs
behind_dollar-from [] None h = refl
behind_dollar-from [] (Some x) h = cc
behind_dollar-from (b ∷ bs) None h = go (b == 36) refl
  where
    go : (t : Bool) → (b == 36) ≡ t → None ≡ behind_dollar (b ∷ bs)
    go true e = absurd (h bs (ap (λ n. n ∷ bs) (grind (arith, nat_tests))))
    go false e = rw e
behind_dollar-from (b ∷ bs) (Some x) h = sym (ap behind_dollar h ∙ behind-here x.now)
