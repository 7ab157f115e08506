-- Paths that lead through a field of a document.
use Rattle.std.specs.Prelude.{ℕ, Bool, true, false, List, [], ◌∷◌}
use Rattle.std.specs.List.{list_any}
use Rattle.std.specs.Str.{bytes_eq}
use Rattle.dv_keyed.specs.Index.{IndexForm}

-- whether a path leads through the field of a name; the one without components leads to all fields
abbrev pub leads_through : List ℕ → List (List ℕ) → Bool
leads_through name [] = true
leads_through name (first ∷ names) = bytes_eq first name

-- whether the path of one of the indexes does, except the one on `_id`
abbrev pub any_leads_through : List ℕ → List IndexForm → Bool
any_leads_through name [] = false
any_leads_through name (x ∷ xs) = list_any (λ y. leads_through name y.path) xs
