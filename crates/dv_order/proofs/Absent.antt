-- Where no key passes, nothing is put in place of a value.
use Rattle.std.specs.Prelude.{◌≡◌, Bool, true, false, List, [], ◌∷◌, Some, None, refl, cond}
use Rattle.std.proofs.Common.{ap}
use Rattle.std.specs.Map.{lookup, set_value}

module _ {K X : Type 0} (test : K → Bool) (w : X) where
  passed_over : (b : Bool) (e : K × X) (es fs : List (K × X)) → cond b (Some e.1) (lookup test es) ≡ None → (lookup test es ≡ None → fs ≡ es) → cond b ((e.0, w) ∷ es) (e ∷ fs) ≡ e ∷ es
  passed_over true e es fs absent rest = cc
  passed_over false e es fs absent rest = ap (λ r. e ∷ r) (rest absent)

  pub set_value_absent : (es : List (K × X)) → lookup test es ≡ None → set_value test es w ≡ es
  set_value_absent [] absent = refl
  set_value_absent (e ∷ es) absent = passed_over (test e.0) e es (set_value test es w) absent (set_value_absent es)
