-- Of `Placed`, what only bodies and proofs need.
use Rattle.std.specs.Prelude.{◌≡◌, Bool, true, false, cond, List, [], ◌∷◌, length, Option, None, Some, refl}
use Rattle.std.proofs.Common.{ap, subst, sym, ◌∙◌}
use Rattle.std.specs.List.{AllByRecursion}
use Rattle.std.specs.List.Sorted.{IsStrictlySortedBy}
use Rattle.std.specs.Map.{keys_of}
use Rattle.std.specs.Option.{option_map}
use Rattle.std.specs.Ordering.{is_eq}
use Rattle.dv_value.specs.Tree.{Field}
use Rattle.dv_gather.specs.declared.lookup.Lookup.{Lookup}
use Rattle.dv_gather.specs.Lookups.{joined_row}
use Rattle.dv_change.specs.Changes.{Positioned, at, forget}
use Rattle.dv_change.specs.Inner.Changes.{HaveOneLength, IsPositioned, alone}
use Rattle.dv_change.specs.Positions.{IsExact, PosTree, pos_order}
use Rattle.dv_join.specs.Placed.{looked_up_at}

module _ (l : Lookup) (foreign : Positioned) where
  same_places : (rows : Positioned) → keys_of (looked_up_at l rows foreign) ≡ keys_of rows
  same_places [] = refl
  same_places (e ∷ rows) = ap (λ ks. e.0 ∷ ks) (same_places rows)

  -- the row at a position
  pub at-looked_up : (q : PosTree) (rows : Positioned) → at q (looked_up_at l rows foreign) ≡ option_map (joined_row l (forget foreign)) (at q rows)
  at-looked_up q [] = refl
  at-looked_up q (e ∷ rows) = by (is_eq (pos_order q e.0)) (at-looked_up q rows)
    where
      by : (b : Bool) → at q (looked_up_at l rows foreign) ≡ option_map (joined_row l (forget foreign)) (at q rows)
          → cond b (Some (joined_row l (forget foreign) e.1)) (at q (looked_up_at l rows foreign)) ≡ option_map (joined_row l (forget foreign)) (cond b (Some e.1) (at q rows))
      by true rest = refl
      by false rest = rest

  -- the joined row for the row at a position is at this position among all joined rows
  pub looked_up_alone : (made : Positioned) (q : PosTree) (row : Option (List Field)) (rows : Positioned) → made ≡ looked_up_at l rows foreign → at q rows ≡ row → alone q (at q made) ≡ looked_up_at l (alone q row) foreign
  looked_up_alone made q row rows is there = ap (alone q) (ap (at q) is ∙ at-looked_up q rows ∙ ap (option_map (joined_row l (forget foreign))) there) ∙ by row
    where
      by : (row : Option (List Field)) → alone q (option_map (joined_row l (forget foreign)) row) ≡ looked_up_at l (alone q row) foreign
      by None = refl
      by (Some d) = refl

  pub looked_up_ordered : (rows : Positioned) → IsPositioned rows → IsPositioned (looked_up_at l rows foreign)
  looked_up_ordered rows are = record {
    ascending = subst (λ (ks : List PosTree). IsStrictlySortedBy pos_order ks) (sym (same_places rows)) are.ascending;
    exact = subst (λ (ks : List PosTree). AllByRecursion IsExact ks) (sym (same_places rows)) are.exact;
  }

  pub looked_up_even : (rows : Positioned) → HaveOneLength rows → HaveOneLength (looked_up_at l rows foreign)
  looked_up_even rows one = (one.0, subst (λ (ks : List PosTree). AllByRecursion (λ pos. length pos ≡ one.0) ks) (sym (same_places rows)) one.1)
