-- The forms of views that are recomputed.
use Rattle.std.proofs.Common.{◌≡◌, ℕ, List, [], ◌∷◌, map, refl, ap, inl, inr}
use Rattle.dv_views.specs.Inner.Views.{ArePartlyRefreshed, IsPartlyRefreshed, Views, view_form}
use Rattle.dv_views.specs.Views.{View}

module _ (names : List (List ℕ)) where
  pub same_form : (v w : View) → IsPartlyRefreshed names v w → view_form w ≡ view_form v
  same_form v w (inl same) = ap view_form same
  same_form v w (inr made) = made.1.form

  pub same_forms : (vs ws : Views) → ArePartlyRefreshed names vs ws → map view_form ws ≡ map view_form vs
  same_forms [] [] partly = refl
  same_forms [] (w ∷ ws) partly = absurd partly
  same_forms (v ∷ vs) [] partly = absurd partly
  same_forms (v ∷ vs) (w ∷ ws) partly = λ i. same_form v w partly.0 i ∷ same_forms vs ws partly.1 i
