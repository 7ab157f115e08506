-- Documents that differ only in the value under a name, and rows made of elements of two arrays if all else in the rows is the
-- same.
use Rattle.std.proofs.Common.{◌≡◌, ◌∙◌, ap, ap₂, sym, refl, Bool, true, false, ◌||◌, List, [], ◌∷◌, ◌++◌, ℕ, zero, suc, map, length, Some, arith}
use Rattle.std.specs.List.{zip}
use Rattle.std.specs.Str.{bytes_eq}
use Rattle.std.proofs.lemmas.Bool.{and_parts, or_parts}
use Rattle.std.proofs.lemmas.Slice.Eq.{bytes_eq-Decides}
use Rattle.dv_value.specs.Inner.ByteLaws.{bytes_eq-symmetric}
use Rattle.dv_value.specs.Names.{AreNamed, has_name, with_value_under}
use Rattle.dv_value.specs.Tree.{Tree, Field, document, fields_of}
use Rattle.dv_value.specs.View.{tree}
use Rattle.dv_value.specs.declared.value.Value.{Value}
use Rattle.dv_order.specs.Same.{is_same}
use Rattle.dv_order.specs.Inner.SameLaws.{same_values}
use Rattle.dv_row.specs.declared.way.Crossing.{Crossing}
use Rattle.dv_row.specs.declared.way.Way.{Way}
use Rattle.dv_row.specs.Inner.Crossings.{AreLike, field_but, fields_but, set_inward, set_on_way}
use Rattle.dv_row.specs.Inner.UnwoundRows.{AreCommon}
use Rattle.dv_row.specs.Row.{Row}
use Rattle.dv_row.specs.Unwinding.{set_under}
use Rattle.dv_row.proofs.OnWay.{set-innermost}

module _ (name : List ℕ) where
  -- fields of other names are the same
  same-field : (f g : Field) → bytes_eq name f.0 ≡ false → field_but name f g ≡ true → f ≡ g
  same-field f g other same =
      let parts = and_parts (bytes_eq f.0 g.0) (bytes_eq f.0 name || is_same f.1 g.1) same in
      let value : is_same f.1 g.1 ≡ true = ap (λ b. b || is_same f.1 g.1) (sym (bytes_eq-symmetric f.0 name ∙ other)) ∙ parts.1 in
      λ i. ((bytes_eq-Decides f.0 g.0).0 parts.0 i, (same_values f.1 g.1).0 value i)

  same-fields : (d e : Row) → has_name name d ≡ false → length d ≡ length e → fields_but name d e ≡ true → d ≡ e
  same-fields [] [] none long all = refl
  same-fields [] (g ∷ e) none long all = absurd (omega arith)
  same-fields (f ∷ d) [] none long all = absurd (omega arith)
  same-fields (f ∷ d) (g ∷ e) none long all =
      let others = or_parts (bytes_eq name f.0) (has_name name d) none in
      let parts = and_parts (field_but name f g) (fields_but name d e) all in
      ap₂ (λ h fs. h ∷ fs) (same-field f g others.0 parts.0) (same-fields d e others.1 (omega arith) parts.1)

  -- with one value under the name they are the same
  pub same-with : (d e : Row) → AreNamed d → length d ≡ length e → fields_but name d e ≡ true → (v : Tree) → with_value_under name v d ≡ with_value_under name v e
  same-with [] [] named long all v = refl
  same-with [] (g ∷ e) named long all v = absurd (omega arith)
  same-with (f ∷ d) [] named long all v = absurd (omega arith)
  same-with (f ∷ d) (g ∷ e) named long all v =
      let parts = and_parts (field_but name f g) (fields_but name d e) all in
      let names : f.0 ≡ g.0 = (bytes_eq-Decides f.0 g.0).0 (and_parts (bytes_eq f.0 g.0) (bytes_eq f.0 name || is_same f.1 g.1) parts.0).0 in
      by names (bytes_eq name f.0) refl (λ none. same-fields d e none (omega arith) parts.1) (λ other. same-field f g other parts.0) (same-with d e named.2 (omega arith) parts.1 v)
    where
      by : f.0 ≡ g.0 → (b : Bool) → bytes_eq name f.0 ≡ b → (has_name name d ≡ false → d ≡ e) → (bytes_eq name f.0 ≡ false → f ≡ g) → with_value_under name v d ≡ with_value_under name v e → with_value_under name v (f ∷ d) ≡ with_value_under name v (g ∷ e)
      by names true here same other rest =
          let there : bytes_eq name g.0 ≡ true = ap (bytes_eq name) (sym names) ∙ here in
          let none : has_name name d ≡ false = ap (λ n. has_name n d) ((bytes_eq-Decides name f.0).0 here) ∙ named.1 in
          rw (here, there) (ap₂ (λ n fs. (n, v) ∷ fs) names (same none))
      by names false here same other rest =
          let there : bytes_eq name g.0 ≡ false = ap (bytes_eq name) (sym names) ∙ here in
          rw (here, there) (ap₂ (λ h fs. h ∷ fs) (other here) rest)

-- ---- documents in one another

-- after a value is set in them, there is a value in place of the outermost one
inward-some : (cs : List Crossing) (v : Tree) → (w : Tree) × (set_inward cs (Some v) ≡ Some w)
inward-some [] v = (v, refl)
inward-some (c ∷ cs) v = (document (fields_of (set_under c.component.now (set_inward cs (Some v)) c.document)), refl)

pub like-way : (way other : Way) → AreLike way.outermost other.outermost → ((v : Tree) → set_inward way.inner.items (Some v) ≡ set_inward other.inner.items (Some v)) → (v : Tree) → set_on_way way (Some v) ≡ set_on_way other (Some v)
like-way way other like inner v =
    let some = inward-some other.inner.items v in
    ap (λ w. set_under way.outermost.component.now w way.outermost.document) (inner v ∙ some.1)
    ∙ like some.0
    ∙ ap (λ w. set_under other.outermost.component.now w other.outermost.document) (sym some.1)

pub like-more : (cs ds : List Crossing) (c d : Crossing) → AreLike c d → ((v : Tree) → set_inward cs (Some v) ≡ set_inward ds (Some v)) → (v : Tree) → set_inward (cs ++ c ∷ []) (Some v) ≡ set_inward (ds ++ d ∷ []) (Some v)
like-more cs ds c d like inner v =
    set-innermost cs c (Some v)
    ∙ inner (document (fields_of (set_under c.component.now (Some v) c.document)))
    ∙ ap (λ e. set_inward ds (Some (document (fields_of e)))) (like v)
    ∙ sym (set-innermost ds d (Some v))

-- ---- rows of elements

pub common-elements : (f g : Tree → Row) → ((v : Tree) → f v ≡ g v) → (es others : List Value)
    → AreCommon (map (λ e. f (tree e)) es) (map (λ e. g (tree e)) others) (map (λ p. is_same (tree p.0) (tree p.1)) (zip es others))
common-elements f g same [] others i marked = cc
common-elements f g same (e ∷ es) [] i marked = cc
common-elements f g same (e ∷ es) (o ∷ others) zero marked = ap Some (same (tree e) ∙ ap g ((same_values (tree e) (tree o)).0 marked))
common-elements f g same (e ∷ es) (o ∷ others) (suc i) marked = common-elements f g same es others i marked
