-- What only bodies and proofs need of `Told`.
use Rattle.std.specs.Prelude.{◌≡◌, ◌⊎◌, ℕ, false, List, [], ◌∷◌, map, Option, None, Some}
use Rattle.dv_value.specs.Tree.{Field}
use Rattle.dv_change.specs.declared.position.Part.TheVariants.{Up}
use Rattle.dv_change.specs.declared.taking.Taken as taking
use Rattle.dv_change.specs.Inner.Told.{changes_told}
use Rattle.dv_coll.specs.Collection.{found}
use Rattle.dv_order.specs.Key.{KeyTree}
use Rattle.dv_views.specs.Changed.{documents_changed}
use Rattle.dv_views.specs.Inner.Changed.{AreMade, AreToldOf}
use Rattle.dv_views.specs.Inner.Views as views
use Rattle.dv_views.specs.Placed.{own_position, positioned}
use Rattle.dv_catalog.specs.declared.effect.Updated.{Updated}
use Rattle.dv_catalog.specs.Changes.{Change, with_changes}
use Rattle.dv_catalog.specs.Inner.EffectView.{after_of}
use Rattle.dv_catalog.specs.State.{Collection}
use Rattle.dv_catalog.specs.Told.{told}

-- changes of documents, each passed to views with the document that was there before
pub record AreToldSo (documents : List (List Field)) (changes : List Change) (all : List taking.Taken) : Type 0 where
  pub changes_are : changes_told all ≡ map told changes
  pub olds : AreToldOf (positioned documents) all

-- changes, as they are passed to views, are those that a collection makes
abbrev pub AreToldAsMade : List (List Field) → List Change → Type 0
AreToldAsMade documents changes = AreMade (map told changes) documents × (documents_changed (map told changes) documents ≡ with_changes documents changes)

-- the changes of a namespace, as they are passed to views; or nothing is passed, since no view reads it
abbrev pub AreTold : List ℕ → views.Views → List (List Field) → List Change → List taking.Taken → Type 0
AreTold namespace registry documents changes all = AreToldSo documents changes all ⊎ ((all ≡ []) × (views.reads_name registry namespace ≡ false))

-- the documents of a collection, if there is one
abbrev pub documents_in : Option Collection → List (List Field)
documents_in None = []
documents_in (Some c) = c.documents

-- the updated documents, each with what it was before
abbrev pub updates_told : List ℕ → List Updated → List taking.Taken
updates_told name each = map (λ u. record { pos = own_position (after_of name u); old = Some u.before; new = Some (after_of name u) }) each

-- the removal of the documents under keys, each with the document as it is
abbrev pub gones_told : List (List Field) → List KeyTree → List taking.Taken
gones_told documents keys = map (λ k. record { pos = Up k ∷ []; old = found k documents; new = None }) keys
