-- The first rows, updated by changes: how a change of the rows changes them.
use Rattle.std.specs.Prelude.{◌≡◌, ℕ, suc, Bool, true, false, cond, ◌||◌, List, [], ◌∷◌, take, Option, None, Some, ⊤, zero, refl}
use Rattle.std.proofs.Common.{ap, inl, inr, sym, ◌∙◌}
use Rattle.std.proofs.lemmas.List.{take-map}
use Rattle.std.specs.declared.cmp.Ordering.{Ordering}
use Rattle.std.specs.declared.cmp.Ordering.TheVariants.{Less, Equal, Greater}
use Rattle.std.specs.Cmp.{Equal-is, alike_right}
use Rattle.std.specs.List.{AllByRecursion}
use Rattle.std.specs.Map.{keys_of}
use Rattle.std.specs.Ordering.{is_eq, match_ordering}
use Rattle.std.proofs.lemmas.Bool.{or_parts}
use Rattle.dv_value.specs.Tree.{Field}
use Rattle.dv_change.specs.declared.change.Change.{Change}
use Rattle.dv_change.specs.declared.change.Change.TheVariants.{Gone, Put}
use Rattle.dv_change.specs.Changes.{Positioned, at, forget, with_change}
use Rattle.dv_change.specs.Inner.Changes.{IsExactChange, IsPositioned, position_changed, row_in}
use Rattle.dv_change.specs.Inner.DiffLaws.{IsPartAt, exact-place, or_else, positioned-changed}
use Rattle.dv_change.specs.Difference.{diff}
use Rattle.dv_change.specs.Inner.Ordered.{gone, put}
use Rattle.dv_change.specs.Inner.PositionLaws.{pos_order_total}
use Rattle.dv_change.specs.Positions.{IsExact, PosTree, pos_order}
use Rattle.dv_change.specs.Inner.Told.{change_to, diff_told, told_along}
use Rattle.dv_change.specs.Inner.ToldLaws.{along-diff, told-parts}
use Rattle.dv_change.specs.Inner.RowLaws.{at-like, at-put, positioned-none, positioned-put}
use Rattle.dv_flow.specs.Inner.Limiting.{at_either, edge_of, last_place, limit_ordered, next_place, with_limited_row}
use Rattle.dv_flow.specs.Placed.{front_at}

-- ---- the first rows after a change, at positions that are neither its own nor the edge

abbrev pub is_beside : PosTree → Option PosTree → Bool
is_beside q None = false
is_beside q (Some p) = is_eq (pos_order q p)

front-none : (n : ℕ) → front_at n [] ≡ []
front-none zero = refl
front-none (suc n) = refl

-- one row more or less
at-next : (q : PosTree) (n : ℕ) (rows : Positioned) → is_beside q (next_place n rows) ≡ false → at q (front_at n rows) ≡ at q (front_at (suc n) rows)
at-next q zero [] other = refl
at-next q (suc n) [] other = refl
at-next q zero (e ∷ rows) other = sym (ap (λ b. cond b (Some e.1) None) other)
at-next q (suc n) (e ∷ rows) other = ap (cond (is_eq (pos_order q e.0)) (Some e.1)) (at-next q n rows other)

before-next : (q : PosTree) (n : ℕ) (e : PosTree × List Field) (rows : Positioned) → is_beside q (next_place n (e ∷ rows)) ≡ false → is_beside q (last_place n rows) ≡ false
before-next q zero e rows other = refl
before-next q (suc n) e rows other = other

at-front-put : (q p : PosTree) (r : List Field) (n : ℕ) (rows : Positioned) → is_eq (pos_order q p) ≡ false → is_beside q (last_place n rows) ≡ false → at q (front_at n (put p r rows)) ≡ at q (front_at n rows)
at-front-put q p r zero rows apart other = refl
at-front-put q p r (suc n) [] apart other = ap (λ b. cond b (Some r) (at q (front_at n []))) apart ∙ ap (at q) (front-none n)
at-front-put q p r (suc n) (e ∷ rows) apart other = by (pos_order p e.0) refl (at-front-put q p r n rows apart (before-next q n e rows other))
  where
    by : (o : Ordering) → pos_order p e.0 ≡ o → at q (front_at n (put p r rows)) ≡ at q (front_at n rows) → at q (front_at (suc n) (match_ordering o ((p, r) ∷ e ∷ rows) ((e.0, r) ∷ rows) (e ∷ put p r rows))) ≡ at q (front_at (suc n) (e ∷ rows))
    by Less o rest = ap (λ b. cond b (Some r) (at q (front_at n (e ∷ rows)))) apart ∙ at-next q n (e ∷ rows) other
    by Equal o rest =
        let here : is_eq (pos_order q e.0) ≡ false = ap is_eq (sym (alike_right pos_order_total p e.0 q o)) ∙ apart in
        ap (λ b. cond b (Some r) (at q (front_at n rows))) here ∙ sym (ap (λ b. cond b (Some e.1) (at q (front_at n rows))) here)
    by Greater o rest = ap (cond (is_eq (pos_order q e.0)) (Some e.1)) rest

at-front-gone : (q p : PosTree) (n : ℕ) (rows : Positioned) → is_eq (pos_order q p) ≡ false → is_beside q (next_place n rows) ≡ false → at q (front_at n (gone p rows)) ≡ at q (front_at n rows)
at-front-gone q p zero rows apart other = refl
at-front-gone q p (suc n) [] apart other = refl
at-front-gone q p (suc n) (e ∷ rows) apart other = by (is_eq (pos_order p e.0)) refl (at-front-gone q p n rows apart other)
  where
    by : (b : Bool) → is_eq (pos_order p e.0) ≡ b → at q (front_at n (gone p rows)) ≡ at q (front_at n rows) → at q (front_at (suc n) (cond b rows (e ∷ gone p rows))) ≡ at q (front_at (suc n) (e ∷ rows))
    by true b rest =
        let here : is_eq (pos_order q e.0) ≡ false = ap is_eq (sym (alike_right pos_order_total p e.0 q ((Equal-is (pos_order p e.0)).0 b))) ∙ apart in
        sym (at-next q n rows other) ∙ sym (ap (λ b. cond b (Some e.1) (at q (front_at n rows))) here)
    by false b rest = ap (cond (is_eq (pos_order q e.0)) (Some e.1)) rest

pub at-front-changed : (q : PosTree) (n : ℕ) (rows : Positioned) (change : Change) → is_eq (pos_order q (position_changed change)) ≡ false → is_beside q (edge_of n (row_in change) rows) ≡ false → at q (front_at n (with_change rows change)) ≡ at q (front_at n rows)
at-front-changed q n rows (Put p r) apart other = at-front-put q p r n rows apart other
at-front-changed q n rows (Gone p) apart other = at-front-gone q p n rows apart other

-- ---- the rows at one or two positions

or-same : {A : Type 0} (b : Bool) (a : Option A) → or_else a (cond b a None) ≡ a
or-same true None = refl
or-same true (Some v) = refl
or-same false None = refl
or-same false (Some v) = refl

at-with-row : (q p : PosTree) (row : Option (List Field)) (rows : Positioned) → at q (with_limited_row p row rows) ≡ cond (is_eq (pos_order q p)) (or_else row (at q rows)) (at q rows)
at-with-row q p None rows = by (is_eq (pos_order q p))
  where
    by : (b : Bool) → at q rows ≡ cond b (at q rows) (at q rows)
    by true = refl
    by false = refl
at-with-row q p (Some v) rows = at-put q p v rows

-- one more position at which the rows have what others have
at-one-more : (q p : PosTree) (b : Bool) (rows some : Positioned) → at q some ≡ cond b (at q rows) None → at q (with_limited_row p (at p rows) some) ≡ cond (is_eq (pos_order q p) || b) (at q rows) None
at-one-more q p b rows some there = at-with-row q p (at p rows) some ∙ by (is_eq (pos_order q p)) refl
  where
    by : (c : Bool) → is_eq (pos_order q p) ≡ c → cond c (or_else (at p rows) (at q some)) (at q some) ≡ cond (c || b) (at q rows) None
    by true beside = ap (λ a. or_else a (at q some)) (sym (at-like q p ((Equal-is (pos_order q p)).0 beside) rows)) ∙ ap (or_else (at q rows)) there ∙ or-same b (at q rows)
    by false beside = there

abbrev is_either : PosTree → PosTree → Option PosTree → Bool
is_either q p None = is_eq (pos_order q p) || false
is_either q p (Some edge) = is_eq (pos_order q edge) || (is_eq (pos_order q p) || false)

at-at-either : (q p : PosTree) (edge : Option PosTree) (rows : Positioned) → at q (at_either p edge rows) ≡ cond (is_either q p edge) (at q rows) None
at-at-either q p None rows = at-one-more q p false rows [] refl
at-at-either q p (Some edge) rows = at-one-more q edge (is_eq (pos_order q p) || false) rows (with_limited_row p (at p rows) []) (at-one-more q p false rows [] refl)

neither : (q p : PosTree) (edge : Option PosTree) → is_either q p edge ≡ false → (is_eq (pos_order q p) ≡ false) × (is_beside q edge ≡ false)
neither q p None e = ((or_parts (is_eq (pos_order q p)) false e).0, refl)
neither q p (Some edge) e =
    let both = or_parts (is_eq (pos_order q edge)) (is_eq (pos_order q p) || false) e in
    ((or_parts (is_eq (pos_order q p)) false both.1).0, both.0)

abbrev IsExactEdge : Option PosTree → Type 0
IsExactEdge None = ⊤
IsExactEdge (Some edge) = IsExact edge

positioned-with-row : (p : PosTree) (row : Option (List Field)) (rows : Positioned) → IsExact p → IsPositioned rows → IsPositioned (with_limited_row p row rows)
positioned-with-row p None rows exact are = are
positioned-with-row p (Some v) rows exact are = positioned-put p v rows are exact

positioned-either : (p : PosTree) (edge : Option PosTree) (rows : Positioned) → IsExact p → IsExactEdge edge → IsPositioned (at_either p edge rows)
positioned-either p None rows exact also = positioned-with-row p (at p rows) [] exact positioned-none
positioned-either p (Some edge) rows exact also = positioned-with-row edge (at edge rows) (with_limited_row p (at p rows) []) also (positioned-with-row p (at p rows) [] exact positioned-none)

exact-next : (n : ℕ) (rows : Positioned) → AllByRecursion IsExact (keys_of rows) → IsExactEdge (next_place n rows)
exact-next n [] exact = tt
exact-next zero (e ∷ rows) exact = exact.0
exact-next (suc n) (e ∷ rows) exact = exact-next n rows exact.1

exact-last : (n : ℕ) (rows : Positioned) → AllByRecursion IsExact (keys_of rows) → IsExactEdge (last_place n rows)
exact-last zero rows exact = tt
exact-last (suc n) rows exact = exact-next n rows exact

exact-edge : (n : ℕ) (row : Option (List Field)) (rows : Positioned) → AllByRecursion IsExact (keys_of rows) → IsExactEdge (edge_of n row rows)
exact-edge n (Some r) rows exact = exact-last n rows exact
exact-edge n None rows exact = exact-next n rows exact

-- ---- the change that puts a row, or removes one

pub place-to : (pos : PosTree) (row : Option (List Field)) → position_changed (change_to pos row) ≡ pos
place-to pos None = refl
place-to pos (Some r) = refl

row-to : (pos : PosTree) (row : Option (List Field)) → row_in (change_to pos row) ≡ row
row-to pos None = refl
row-to pos (Some r) = refl

pub exact-to : (pos : PosTree) (row : Option (List Field)) → IsExact pos → IsExactChange (change_to pos row)
exact-to pos None exact = exact
exact-to pos (Some r) exact = exact

-- ---- what the stage returns for a change: the changes at the position of the change and at the edge

module _ (n : ℕ) (rows : Positioned) (change : Change) (are : IsPositioned rows) (exact : IsExactChange change) where
  after : IsPositioned (with_change rows change)
  after = positioned-changed rows change are exact

  part : (q : PosTree) (here : Bool) → is_either q (position_changed change) (edge_of n (row_in change) rows) ≡ here
      → IsPartAt (front_at n rows) (front_at n (with_change rows change)) (at_either (position_changed change) (edge_of n (row_in change) rows) (front_at n rows)) (at_either (position_changed change) (edge_of n (row_in change) rows) (front_at n (with_change rows change))) q
  part q true here =
      let p = position_changed change in
      let edge = edge_of n (row_in change) rows in
      inl (
        at-at-either q p edge (front_at n rows) ∙ ap (λ b. cond b (at q (front_at n rows)) None) here,
        at-at-either q p edge (front_at n (with_change rows change)) ∙ ap (λ b. cond b (at q (front_at n (with_change rows change))) None) here,
      )
  part q false here =
      let p = position_changed change in
      let edge = edge_of n (row_in change) rows in
      let apart = neither q p edge here in
      inr (
        at-at-either q p edge (front_at n rows) ∙ ap (λ b. cond b (at q (front_at n rows)) None) here,
        at-at-either q p edge (front_at n (with_change rows change)) ∙ ap (λ b. cond b (at q (front_at n (with_change rows change))) None) here,
        sym (at-front-changed q n rows change apart.0 apart.1),
      )

  pub limit-parts : told_along (front_at n rows) (diff (front_at n rows) (front_at n (with_change rows change))) ≡ diff_told (at_either (position_changed change) (edge_of n (row_in change) rows) (front_at n rows)) (at_either (position_changed change) (edge_of n (row_in change) rows) (front_at n (with_change rows change)))
  limit-parts =
      let p = position_changed change in
      let edge = edge_of n (row_in change) rows in
      let old = front_at n rows in
      let new = front_at n (with_change rows change) in
      let place = exact-place change exact in
      let also = exact-edge n (row_in change) rows are.exact in
      along-diff old new (limit_ordered n rows are) (limit_ordered n (with_change rows change) after)
      ∙ told-parts old new (at_either p edge old) (at_either p edge new) (limit_ordered n rows are) (limit_ordered n (with_change rows change) after) (positioned-either p edge old place also) (positioned-either p edge new place also) (λ q x.
      part q (is_either q p edge) refl)

-- with the values that the code has
pub limit-told : (n : ℕ) (rows : Positioned) (pos : PosTree) (row : Option (List Field)) → IsPositioned rows → IsExact pos → (edge : Option PosTree) (front shown old new : Positioned) → edge ≡ edge_of n row rows → front ≡ front_at n rows → shown ≡ front_at n (with_change rows (change_to pos row))
    → old ≡ at_either pos edge front → new ≡ at_either pos edge shown
    → diff_told old new ≡ told_along (front_at n rows) (diff (front_at n rows) (front_at n (with_change rows (change_to pos row))))
limit-told n rows pos row are exact edge front shown old new e f s o w =
    (λ i. diff_told (o i) (w i))
    ∙ (λ i. diff_told (at_either (sym (place-to pos row) i) ((e ∙ ap (λ r. edge_of n r rows) (sym (row-to pos row))) i) (f i)) (at_either (sym (place-to pos row) i) ((e ∙ ap (λ r. edge_of n r rows) (sym (row-to pos row))) i) (s i)))
    ∙ sym (limit-parts n rows (change_to pos row) are (exact-to pos row exact))

-- ---- the stage without positions

pub limit_forgets : (n : ℕ) (rows : Positioned) → forget (front_at n rows) ≡ take n (forget rows)
limit_forgets n rows = sym (take-map (λ e. e.1) n rows)
