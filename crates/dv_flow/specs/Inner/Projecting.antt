-- The rows after a `$project`, by positions.
use Rattle.std.specs.Prelude.{◌≡◌, Bool, true, false, cond, List, [], ◌∷◌, length, None, Some, refl}
use Rattle.std.proofs.Common.{ap, subst, sym, ◌∙◌}
use Rattle.std.specs.List.{AllByRecursion}
use Rattle.std.specs.List.Sorted.{IsStrictlySortedBy}
use Rattle.std.specs.Map.{keys_of}
use Rattle.std.specs.Option.{option_map}
use Rattle.std.specs.Ordering.{is_eq}
use Rattle.std.specs.declared.cmp.Ordering.TheVariants.{Equal}
use Rattle.dv_value.specs.Tree.{Field}
use Rattle.dv_row.specs.declared.project.Project.{Project}
use Rattle.dv_row.specs.Projecting.{projected}
use Rattle.dv_change.specs.Changes.{Positioned, at}
use Rattle.dv_change.specs.Inner.Changes.{HaveOneLength, IsPositioned, alone}
use Rattle.dv_change.specs.Inner.DiffLaws.{at-alone}
use Rattle.dv_change.specs.Positions.{IsExact, PosTree, pos_order}
use Rattle.dv_change.specs.Inner.RowLaws.{at-like}
use Rattle.dv_flow.specs.Placed.{shown_at}

same_places : (p : Project) (rows : Positioned) → keys_of (shown_at p rows) ≡ keys_of rows
same_places p [] = refl
same_places p (e ∷ rows) = ap (λ ks. e.0 ∷ ks) (same_places p rows)

at-shown : (p : Project) (q : PosTree) (rows : Positioned) → at q (shown_at p rows) ≡ option_map (projected p) (at q rows)
at-shown p q [] = refl
at-shown p q (e ∷ rows) = by (is_eq (pos_order q e.0)) (at-shown p q rows)
  where
    by : (b : Bool) → at q (shown_at p rows) ≡ option_map (projected p) (at q rows) → cond b (Some (projected p e.1)) (at q (shown_at p rows)) ≡ option_map (projected p) (cond b (Some e.1) (at q rows))
    by true rest = refl
    by false rest = rest

pub project_ordered : (p : Project) (rows : Positioned) → IsPositioned rows → IsPositioned (shown_at p rows)
project_ordered p rows are = record {
  ascending = subst (λ (ks : List PosTree). IsStrictlySortedBy pos_order ks) (sym (same_places p rows)) are.ascending;
  exact = subst (λ (ks : List PosTree). AllByRecursion IsExact ks) (sym (same_places p rows)) are.exact;
}

pub project_even : (p : Project) (rows : Positioned) → IsPositioned rows → HaveOneLength rows → HaveOneLength (shown_at p rows)
project_even p rows are one = (one.0, subst (λ (ks : List PosTree). AllByRecursion (λ pos. length pos ≡ one.0) ks) (sym (same_places p rows)) one.1)

pub project_single : (s : Project) (rows : Positioned) (q p : PosTree) → IsPositioned rows → IsExact q → IsExact p → pos_order q p ≡ Equal → at q (shown_at s rows) ≡ at q (shown_at s (alone p (at p rows)))
project_single s rows q p are x y e =
    at-shown s q rows
    ∙ ap (option_map (projected s)) (at-like q p e rows ∙ sym (ap (λ r. cond (is_eq r) (at p rows) None) e) ∙ sym (at-alone q p (at p rows)))
    ∙ sym (at-shown s q (alone p (at p rows)))

-- the row that it returned for a row is at the position of that row
pub project_beside : (p : Project) (made : Positioned) (q : PosTree) (row : List Field) (left : Positioned) → made ≡ shown_at p left → at q left ≡ Some row → alone q (at q made) ≡ shown_at p ((q, row) ∷ [])
project_beside p made q row left is there = ap (alone q) (ap (at q) is ∙ at-shown p q left ∙ ap (option_map (projected p)) there)
