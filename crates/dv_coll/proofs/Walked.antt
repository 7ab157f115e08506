-- Documents between two ends.
use Rattle.std.proofs.Common.{◌≡◌, ◌∙◌, Bool, true, false, [], ◌∷◌, map, cond, filter, refl, ap}
use Rattle.std.specs.Map.{keys_of, values_of}
use Rattle.dv_order.specs.Key.{KeyTree}
use Rattle.dv_coll.specs.Collection.{id_key}
use Rattle.dv_coll.proofs.Places.{Entries}

-- the values of the entries whose keys pass a test are the documents whose keys do
pub values_between : (test : KeyTree → Bool) (es : Entries) → keys_of es ≡ map id_key (values_of es) → values_of (filter (λ e. test e.0) es) ≡ filter (λ d. test (id_key d)) (values_of es)
values_between test [] e = refl
values_between test (f ∷ es) e =
    let first : f.0 ≡ id_key f.1 = cc in
    let others : keys_of es ≡ map id_key (values_of es) = cc in
    let rest = values_between test es others in
    at (test f.0) rest ∙ ap (λ k. cond (test k) (f.1 ∷ filter (λ d. test (id_key d)) (values_of es)) (filter (λ d. test (id_key d)) (values_of es))) first
  where
    at : (b : Bool) → values_of (filter (λ e. test e.0) es) ≡ filter (λ d. test (id_key d)) (values_of es) → values_of (cond b (f ∷ filter (λ e. test e.0) es) (filter (λ e. test e.0) es)) ≡ cond b (f.1 ∷ filter (λ d. test (id_key d)) (values_of es)) (filter (λ d. test (id_key d)) (values_of es))
    at true rest = ap (λ ds. f.1 ∷ ds) rest
    at false rest = rest
