-- The first rows, updated by changes: how many changes are returned.
use Rattle.std.specs.Prelude.{◌≡◌, ◌+◌, ◌≤◌, ℕ, suc, Bool, true, false, not, cond, List, [], ◌∷◌, length, filter, Option, None, Some, is_none, is_some, refl}
use Rattle.std.proofs.Common.{ap, arith, inr, sym, ◌∙◌}
use Rattle.std.proofs.lemmas.List.{length-append, length-map}
use Rattle.std.proofs.lemmas.Map.Entries.{option_filter}
use Rattle.std.specs.Ordering.{is_eq}
use Rattle.dv_value.specs.Tree.{Field}
use Rattle.dv_change.specs.declared.change.Change.{Change}
use Rattle.dv_change.specs.declared.change.Change.TheVariants.{Gone, Put}
use Rattle.dv_change.specs.Changes.{Positioned, at, with_change}
use Rattle.dv_change.specs.Inner.Changes.{IsExactChange, IsPositioned, position_changed, row_in}
use Rattle.dv_change.specs.Inner.DiffLaws.{at-differs, at-went, diff-parts, positioned-changed, positioned-filter}
use Rattle.dv_change.specs.Difference.{diff, gones, puts, stands_as}
use Rattle.dv_change.specs.Inner.Ordered.{gone}
use Rattle.dv_change.specs.Positions.{PosTree, pos_order}
use Rattle.dv_change.specs.Inner.RowLaws.{at-gone, at_back, positioned-gone, positioned-none, same_rows}
use Rattle.dv_flow.proofs.Limits.{at-front-changed, is_beside}
use Rattle.dv_flow.specs.Inner.Limiting.{edge_of, limit_ordered}
use Rattle.dv_flow.specs.Placed.{front_at}

abbrev went : Positioned → Positioned → Positioned
went old new = filter (λ e. is_none (at e.0 new)) old

abbrev came : Positioned → Positioned → Positioned
came old new = filter (λ e. not (stands_as (at e.0 old) e.1)) new

diff-length : (old new : Positioned) → length (diff old new) ≡ length (went old new) + length (came old new)
diff-length old new =
    length-append (gones old new) (puts old new) ∙ (λ i. length-map (went old new) (λ e. Gone e.0) i + length-map (came old new) (λ e. Put e.0 e.1) i)

gone-length : (p : PosTree) (es : Positioned) → length es ≡ cond (is_some (at p es)) 1 0 + length (gone p es)
gone-length p [] = refl
gone-length p (e ∷ es) = by (is_eq (pos_order p e.0)) (gone-length p es)
  where
    by : (b : Bool) → length es ≡ cond (is_some (at p es)) 1 0 + length (gone p es) → suc (length es) ≡ cond (is_some (cond b (Some e.1) (at p es))) 1 0 + length (cond b es (e ∷ gone p es))
    by true rest = omega arith
    by false rest = omega (arith, rest)

-- at a position one row is removed or one is put
one-change : (a b : Option (List Field)) → cond (is_some (option_filter (λ v. is_none b) a)) 1 0 + cond (is_some (option_filter (λ v. not (stands_as a v)) b)) 1 0 ≤ 1
one-change None None = omega arith
one-change (Some v) None = omega arith
one-change None (Some w) = omega arith
one-change (Some v) (Some w) = by (stands_as (Some v) w)
  where
    by : (s : Bool) → 0 + cond (is_some (cond (not s) (Some w) None)) 1 0 ≤ 1
    by true = omega arith
    by false = omega arith

module _ (p : PosTree) (old new : Positioned) (o : IsPositioned old) (n : IsPositioned new) where
  went-others : went (gone p old) (gone p new) ≡ gone p (went old new)
  went-others =
      same_rows (went (gone p old) (gone p new)) (gone p (went old new)) (positioned-filter (λ e. is_none (at e.0 (gone p new))) (gone p old) (positioned-gone p old o)) (positioned-gone p (went old new) (positioned-filter (λ e. is_none (at e.0 new)) old o)) (λ q exact.
      at-went (gone p old) (gone p new) q (positioned-gone p old o)
      ∙ (λ i. option_filter (λ v. is_none (at-gone q p new n.ascending i)) (at-gone q p old o.ascending i))
      ∙ by (is_eq (pos_order p q)) (at q old) (at q new)
      ∙ ap (cond (is_eq (pos_order p q)) None) (sym (at-went old new q o))
      ∙ sym (at-gone q p (went old new) (positioned-filter (λ e. is_none (at e.0 new)) old o).ascending))
    where
      by : (b : Bool) (x y : Option (List Field)) → option_filter (λ v. is_none (cond b None y)) (cond b None x) ≡ cond b None (option_filter (λ v. is_none y) x)
      by true x y = refl
      by false x y = refl

  came-others : came (gone p old) (gone p new) ≡ gone p (came old new)
  came-others =
      same_rows (came (gone p old) (gone p new)) (gone p (came old new)) (positioned-filter (λ e. not (stands_as (at e.0 (gone p old)) e.1)) (gone p new) (positioned-gone p new n)) (positioned-gone p (came old new) (positioned-filter (λ e. not (stands_as (at e.0 old) e.1)) new n)) (λ q exact.
      at-differs (gone p old) (gone p new) q (positioned-gone p new n)
      ∙ (λ i. option_filter (λ v. not (stands_as (at-gone q p old o.ascending i) v)) (at-gone q p new n.ascending i))
      ∙ by (is_eq (pos_order p q)) (at q old) (at q new)
      ∙ ap (cond (is_eq (pos_order p q)) None) (sym (at-differs old new q n))
      ∙ sym (at-gone q p (came old new) (positioned-filter (λ e. not (stands_as (at e.0 old) e.1)) new n).ascending))
    where
      by : (b : Bool) (x y : Option (List Field)) → option_filter (λ v. not (stands_as (cond b None x) v)) (cond b None y) ≡ cond b None (option_filter (λ v. not (stands_as x v)) y)
      by true x y = refl
      by false x y = refl

  -- a difference has at most one change at a position
  pub diff-others : length (diff old new) ≤ 1 + length (diff (gone p old) (gone p new))
  diff-others =
      let goes : length (went old new) ≡ cond (is_some (option_filter (λ v. is_none (at p new)) (at p old))) 1 0 + length (went (gone p old) (gone p new)) =
      gone-length p (went old new) ∙ (λ i. cond (is_some (at-went old new p o i)) 1 0 + length (sym went-others i)) in
      let comes : length (came old new) ≡ cond (is_some (option_filter (λ v. not (stands_as (at p old) v)) (at p new))) 1 0 + length (came (gone p old) (gone p new)) =
      gone-length p (came old new) ∙ (λ i. cond (is_some (at-differs old new p n i)) 1 0 + length (sym came-others i)) in
      omega (arith, goes, comes, one-change (at p old) (at p new), diff-length old new, diff-length (gone p old) (gone p new))

  gone-alike : (q : PosTree) → (is_eq (pos_order q p) ≡ false → at q old ≡ at q new) → at q (gone p old) ≡ at q (gone p new)
  gone-alike q same = at-gone q p old o.ascending ∙ by (is_eq (pos_order p q)) (at_back q p) ∙ sym (at-gone q p new n.ascending)
    where
      by : (b : Bool) → is_eq (pos_order q p) ≡ b → cond b None (at q old) ≡ cond b None (at q new)
      by true b = refl
      by false b = same b

pub limit_bound : (n : ℕ) (rows : Positioned) (change : Change) → IsPositioned rows → IsExactChange change → length (diff (front_at n rows) (front_at n (with_change rows change))) ≤ 2
limit_bound n rows change are exact = by (edge_of n (row_in change) rows) refl
  where
    p : PosTree
    p = position_changed change

    old : Positioned
    old = front_at n rows

    new : Positioned
    new = front_at n (with_change rows change)

    o : IsPositioned old
    o = limit_ordered n rows are

    w : IsPositioned new
    w = limit_ordered n (with_change rows change) (positioned-changed rows change are exact)

    others : (q : PosTree) → is_beside q (edge_of n (row_in change) rows) ≡ false → at q (gone p old) ≡ at q (gone p new)
    others q other = gone-alike p old new o w q (λ apart. sym (at-front-changed q n rows change apart other))

    by : (edge : Option PosTree) → edge_of n (row_in change) rows ≡ edge → length (diff old new) ≤ 2
    by None e =
        let same : diff (gone p old) (gone p new) ≡ [] =
        diff-parts (gone p old) (gone p new) [] [] (positioned-gone p old o) (positioned-gone p new w) positioned-none positioned-none (λ q x. inr (refl, refl, others q (ap (is_beside q) e))) in
        omega (arith, diff-others p old new o w, ap length same)
    by (Some k) e =
        let op = positioned-gone p old o in
        let wp = positioned-gone p new w in
        let same : diff (gone k (gone p old)) (gone k (gone p new)) ≡ [] =
        diff-parts (gone k (gone p old)) (gone k (gone p new)) [] [] (positioned-gone k (gone p old) op) (positioned-gone k (gone p new) wp) positioned-none positioned-none (λ q x. inr (refl, refl, gone-alike k (gone p old) (gone p new) op wp q (λ other. others q (ap (is_beside q) e ∙ other)))) in
        omega (arith, diff-others p old new o w, diff-others k (gone p old) (gone p new) op wp, ap length same)
