-- A value put under a name again, and copies of rows, one for each.
use Rattle.std.specs.Prelude.{◌≡◌, ℕ, Bool, true, false, ◌||◌, List, [], ◌∷◌, ◌++◌, Option, None, Some, drop, if◌then◌else◌, slice_get, refl}
use Rattle.std.proofs.Common.{Bor, ap, sym, ◌∙◌}
use Rattle.std.specs.Map.Iter.{TakesFirst, deref_pair}
use Rattle.std.specs.Option.{option_map, unwrap_or}
use Rattle.std.proofs.lemmas.Slice.Eq.{bytes_eq-Decides}
use Rattle.std.specs.Str.{bytes_eq}
use Rattle.dv_value.specs.Names.{has_name, has_zero, with_value_under}
use Rattle.dv_value.specs.Tree.{Field, Tree}
use Rattle.dv_gather.specs.declared.lookup.Lookup.{Lookup}
use Rattle.dv_gather.specs.Lookups.{joined_documents, joined_row, set_field}
use Rattle.dv_change.specs.Changes.{Positioned, forget}
use Rattle.dv_change.specs.Positions.{PosTree}
use Rattle.dv_join.specs.Inner.Copied.{DiffersByTarget, made_of}

-- ---- a value under a name

module _ (name : List ℕ) (v w : Tree) where
  itself : bytes_eq name name ≡ true
  itself = (bytes_eq-Decides name name).1 refl

  has-still : (fs : List Field) → has_name name (with_value_under name w fs) ≡ has_name name fs
  has-still [] = refl
  has-still (f ∷ fs) = by (bytes_eq name f.0) refl (has-still fs)
    where
      by : (b : Bool) → bytes_eq name f.0 ≡ b → has_name name (with_value_under name w fs) ≡ has_name name fs → has_name name (if b then (f.0, w) ∷ fs else f ∷ with_value_under name w fs) ≡ bytes_eq name f.0 || has_name name fs
      by true here rest = refl
      by false other rest = ap (λ b. bytes_eq name f.0 || b) rest

  under-again : (fs : List Field) → with_value_under name v (with_value_under name w fs) ≡ with_value_under name v fs
  under-again [] = refl
  under-again (f ∷ fs) = by (bytes_eq name f.0) refl (under-again fs)
    where
      by : (b : Bool) → bytes_eq name f.0 ≡ b → with_value_under name v (with_value_under name w fs) ≡ with_value_under name v fs → with_value_under name v (if b then (f.0, w) ∷ fs else f ∷ with_value_under name w fs) ≡ (if b then (f.0, v) ∷ fs else f ∷ with_value_under name v fs)
      by true here rest = ap (λ b. if b then (f.0, v) ∷ fs else (f.0, w) ∷ with_value_under name v fs) here
      by false other rest = ap (λ b. if b then (f.0, v) ∷ with_value_under name w fs else f ∷ with_value_under name v (with_value_under name w fs)) other ∙ ap (λ l. f ∷ l) rest

  behind-again : (fs : List Field) → has_name name fs ≡ false → with_value_under name v (fs ++ (name, w) ∷ []) ≡ fs ++ (name, v) ∷ []
  behind-again [] none = ap (λ b. if b then (name, v) ∷ [] else (name, w) ∷ []) itself
  behind-again (f ∷ fs) none = by (bytes_eq name f.0) refl (behind-again fs) none
    where
      by : (b : Bool) → bytes_eq name f.0 ≡ b → (has_name name fs ≡ false → with_value_under name v (fs ++ (name, w) ∷ []) ≡ fs ++ (name, v) ∷ []) → b || has_name name fs ≡ false → with_value_under name v (f ∷ fs ++ (name, w) ∷ []) ≡ f ∷ fs ++ (name, v) ∷ []
      by true here rest none = absurd (let same : true ≡ false = none in cc)
      by false other rest none = ap (λ b. if b then (f.0, v) ∷ fs ++ (name, w) ∷ [] else f ∷ with_value_under name v (fs ++ (name, w) ∷ [])) other ∙ ap (λ l. f ∷ l) (rest none)

  has-behind : (fs : List Field) → has_name name (fs ++ (name, w) ∷ []) ≡ true
  has-behind [] = ap (λ b. b || false) itself
  has-behind (f ∷ fs) = ap (λ b. bytes_eq name f.0 || b) (has-behind fs) ∙ or-true (bytes_eq name f.0)
    where
      or-true : (b : Bool) → b || true ≡ true
      or-true true = refl
      or-true false = refl

  -- a value set in place of another that was set under the name
  set-again : (d : List Field) → set_field name v (set_field name w d) ≡ set_field name v d
  set-again d = by (has_name name d) refl (has_zero name) refl
    where
      behind : Tree → List Field → List Field
      behind u fs = if has_zero name || has_name name fs then fs else fs ++ (name, u) ∷ []

      set : List Field → Bool → List Field
      set fs b = if b then with_value_under name v fs else behind v fs

      by : (h : Bool) → has_name name d ≡ h → (z : Bool) → has_zero name ≡ z → set_field name v (if h then with_value_under name w d else behind w d) ≡ set_field name v d
      by true has z zero = ap (set (with_value_under name w d)) (has-still d ∙ has) ∙ under-again d ∙ sym (ap (set d) has)
      by false has true zero = ap (λ b. set_field name v (if b || has_name name d then d else d ++ (name, w) ∷ [])) zero
      by false has false zero =
          (λ i. set_field name v (if zero i || has i then d else d ++ (name, w) ∷ []))
          ∙ ap (set (d ++ (name, w) ∷ [])) (has-behind d)
          ∙ behind-again d has
          ∙ sym (ap (set d) has ∙ (λ i. if zero i || has i then d else d ++ (name, v) ∷ []))

-- what a row was joined with can be replaced
pub joined-differs : (l : Lookup) (foreign : Positioned) → DiffersByTarget l (joined_row l (forget foreign))
joined-differs l foreign = λ v d. set-again l.target v (joined_documents l (forget foreign) d) d

-- ---- copies

pub made-itself : (rows : Positioned) → rows ≡ made_of (λ d. d) rows
made-itself [] = refl
made-itself (e ∷ rows) = ap (λ es. e ∷ es) (made-itself rows)

-- what may be borrowed from a list: a position and the document there
abbrev pub Lent : Type 0
Lent = Option (Bor PosTree × Bor (List Field))

-- the borrowed document, or another one if there is none
abbrev pub document_or : Lent → List Field → List Field
document_or lent other = unwrap_or (option_map (λ e. e.1.now) lent) other

module _ (made : List Field → List Field) (e : PosTree × List Field) where
  lent-made : (lent : Lent) → option_map {U = PosTree × List Field} (λ x. (x.0.now, x.1.now)) lent ≡ Some (e.0, made e.1) → document_or lent e.1 ≡ made e.1
  lent-made None is = absurd cc
  lent-made (Some x) is =
      let pair : PosTree × List Field = (x.0.now, x.1.now) in
      let same : pair ≡ (e.0, made e.1) = cc in
      ap (λ (p : PosTree × List Field). p.1) same

  pub first-made : (rows copied : Positioned) (lent : Lent) → copied ≡ made_of made rows → slice_get rows 0 ≡ Some e → option_map {U = PosTree × List Field} (λ x. (x.0.now, x.1.now)) lent ≡ slice_get copied 0 → document_or lent e.1 ≡ made e.1
  first-made rows copied lent are first is = lent-made lent (is ∙ ap (λ es. slice_get es 0) are ∙ by rows first)
    where
      by : (es : Positioned) → slice_get es 0 ≡ Some e → slice_get (made_of made es) 0 ≡ Some (e.0, made e.1)
      by [] first = absurd cc
      by (x ∷ es) first = let same : x ≡ e = cc in ap (λ y. Some (y.0, made y.1)) same

  pub next-made : (rows copies rest : Positioned) (lent : Lent) → copies ≡ made_of made (e ∷ rows) → TakesFirst deref_pair copies lent rest → (document_or lent e.1 ≡ made e.1) × (rest ≡ made_of made rows)
  next-made rows copies rest None are takes = let none : copies ≡ [] = takes.0 in absurd cc
  next-made rows copies rest (Some x) are takes =
      let pair : PosTree × List Field = (x.0.now, x.1.now) in
      let both : pair ∷ rest ≡ (e.0, made e.1) ∷ made_of made rows = sym takes ∙ are in
      let same : pair ≡ (e.0, made e.1) = cc in
      (ap (λ (p : PosTree × List Field). p.1) same, cc)

pub others-made : (made : List Field → List Field) (rows copied : Positioned) → copied ≡ made_of made rows → drop 1 copied ≡ made_of made (drop 1 rows)
others-made made rows copied are = ap (drop 1) are ∙ by rows
  where
    by : (es : Positioned) → drop 1 (made_of made es) ≡ made_of made (drop 1 es)
    by [] = refl
    by (x ∷ es) = refl
