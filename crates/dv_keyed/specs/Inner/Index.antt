-- Of `Index`, what only bodies and proofs need.
use Rattle.std.specs.Prelude.{◌≡◌, ℕ, Bool, List, [], ◌∷◌, refl}
use Rattle.std.specs.Coded.{Coded, coded_bool, coded_ℕ, coded_list, coded×, code_by}
use Rattle.dv_order.specs.Inner.Key.{coded_key}
use Rattle.dv_keyed.specs.Inner.Pairs.{Pair}
use Rattle.dv_keyed.specs.Index.{IndexForm, id_form}

pub record IndexTree : Type 0 where
  pub name : List ℕ
  pub path : List (List ℕ)
  pub unique : Bool
  pub pairs : List Pair

abbrev pub form_of : IndexTree → IndexForm
form_of x = record { name = x.name; path = x.path; unique = x.unique }

-- the first index is the one on `_id`
abbrev pub BeginsWithId : List IndexTree → Type 0
BeginsWithId [] = ⊥
BeginsWithId (x ∷ xs) = form_of x ≡ id_form

-- an index as a ghost value, one to one
abbrev pub coded_index : Coded IndexTree
coded_index =
    code_by (List ℕ × (List (List ℕ) × (Bool × List Pair))) (coded× (coded_list coded_ℕ) (coded× (coded_list (coded_list coded_ℕ)) (coded× coded_bool (coded_list (coded× coded_key coded_key)))))
    (λ x. (x.name, (x.path, (x.unique, x.pairs)))) (λ p. record { name = p.0; path = p.1.0; unique = p.1.1.0; pairs = p.1.1.1 }) (λ _. refl)

abbrev pub coded_form : Coded IndexForm
coded_form =
    code_by (List ℕ × (List (List ℕ) × Bool)) (coded× (coded_list coded_ℕ) (coded× (coded_list (coded_list coded_ℕ)) coded_bool)) (λ x. (x.name, (x.path, x.unique))) (λ p. record { name = p.0; path = p.1.0; unique = p.1.1 }) (λ _. refl)
