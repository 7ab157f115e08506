-- The rows of a group, ranked by a value: which they are after a change of a row, and that the first has the least value, or the
-- greatest.
use Rattle.std.specs.Prelude.{◌≡◌, ◌||◌, ◌&&◌, not, Bool, true, false, cond, List, [], ◌∷◌, Option, None, Some, refl}
use Rattle.std.proofs.Common.{ap, sym, ◌∙◌}
use Rattle.std.specs.declared.cmp.Ordering.{Ordering}
use Rattle.std.specs.declared.cmp.Ordering.TheVariants.{Less, Equal, Greater}
use Rattle.std.specs.BTreeMap.{is_at}
use Rattle.std.specs.Cmp.{IsTotalOrder, Equal-is, alike_right, on_total, tied_itself, upto}
use Rattle.std.specs.Ordering.{is_eq, is_gt, is_lt, match_ordering, on, ordering_reverse, ordering_then}
use Rattle.std.proofs.lemmas.Map.{lookup-none}
use Rattle.std.proofs.lemmas.Map.Entries.{none_below_head, option_filter}
use Rattle.dv_value.specs.Tree.{Tree, null}
use Rattle.dv_order.specs.Key.{value}
use Rattle.dv_order.specs.Order.{canon, order}
use Rattle.dv_order.specs.OwnKeys.{IsOwn}
use Rattle.dv_order.specs.Inner.SameOrder.{order_of_canon}
use Rattle.dv_order.specs.Inner.TotalOrder.{order_total}
use Rattle.dv_candidates.specs.Candidates.{or_null}
use Rattle.dv_row.specs.Row.{Row}
use Rattle.dv_change.specs.declared.position.Part.{Part}
use Rattle.dv_change.specs.Changes.{Positioned, at, forget}
use Rattle.dv_change.specs.Inner.Changes.{IsPositioned}
use Rattle.dv_change.specs.Inner.Ordered.{gone, put}
use Rattle.dv_change.specs.Inner.PositionLaws.{part_order_total, pos_order_total}
use Rattle.dv_change.specs.Positions.{IsExact, IsExactPart, PosTree, part_order, pos_order}
use Rattle.dv_change.specs.Inner.RowLaws.{at-gone, at-like, at-put, at_back, past, positioned-gone, positioned-none, positioned-put, positioned-tail, same_rows}
use Rattle.dv_gather.specs.declared.accumulator.Accumulator.{Accumulator}
use Rattle.dv_gather.specs.declared.accumulator.Accumulator.TheVariants.{Sum, Min, Max, Push}
use Rattle.dv_gather.specs.Extremes.{extreme_from, is_null, extreme_stands_so}
use Rattle.dv_gather.specs.Grouping.{Accumulation, accumulated, values_over, with_present}
use Rattle.dv_gather.specs.Inner.AccumulatorStates.{extreme_state, of_none}
use Rattle.dv_group.specs.Inner.AccumulatorStates.{value_of_first, rank, ranked_over, field_value, with_ranked, without_ranked}

-- ---- a row that is added and removed

over : {A : Type 0} (b : Bool) (x y s : A) → (b ≡ true → s ≡ x) → cond b x (cond b y s) ≡ s
over true x y s is = sym (is refl)
over false x y s is = refl

module _ (p : PosTree) (d : Row) (rows : Positioned) (are : IsPositioned rows) (exact : IsExact p) where
  same-there : (o : Option Row) → at p rows ≡ o → (q : PosTree) → is_eq (pos_order q p) ≡ true → at q rows ≡ o
  same-there o is q here = at-like q p ((Equal-is (pos_order q p)).0 here) rows ∙ is

  put-gone : at p rows ≡ None → gone p (put p d rows) ≡ rows
  put-gone none =
      let put-are = positioned-put p d rows are exact in
      same_rows (gone p (put p d rows)) rows (positioned-gone p (put p d rows) put-are) are
      (λ q x. at-gone q p (put p d rows) put-are.ascending ∙ (λ i. cond (at_back p q i) None (at-put q p d rows i)) ∙ over (is_eq (pos_order q p)) None (Some d) (at q rows) (same-there None none q))

  gone-put : at p rows ≡ Some d → put p d (gone p rows) ≡ rows
  gone-put some =
      same_rows (put p d (gone p rows)) rows (positioned-put p d (gone p rows) (positioned-gone p rows are) exact) are
      (λ q x. at-put q p d (gone p rows) ∙ ap (cond (is_eq (pos_order q p)) (Some d)) (at-gone q p rows are.ascending ∙ ap (λ b. cond b None (at q rows)) (at_back p q)) ∙ over (is_eq (pos_order q p)) (Some d) None (at q rows) (same-there (Some d) some q))

-- ---- one more row, by its rank

either : {A : Type 0} (P : A → Type 0) (b : Bool) (x y : A) → P x → P y → P (cond b x y)
either P true x y p q = p
either P false x y p q = q

either-same : {A : Type 0} (b : Bool) (x : A) → x ≡ cond b x x
either-same b x = either (λ y. x ≡ y) b x x refl refl

-- two tests, the second of which is made first
in-two : {A : Type 0} (o c : Ordering) (x y : A) → cond (is_eq (ordering_then o c)) x y ≡ cond (is_eq c) (cond (is_eq o) x y) y
in-two Less c x y = either-same (is_eq c) y
in-two Equal c x y = refl
in-two Greater c x y = either-same (is_eq c) y

own : (v : Tree) → IsOwn (value (canon v))
own v = record { of = Some v; is = refl }

exact-rank : (accumulator : Accumulator) (v : Tree) → IsExactPart (rank accumulator v)
exact-rank Sum v = own v
exact-rank Min v = own v
exact-rank Max v = own v
exact-rank Push v = own v

-- whether a value ranks at a part
abbrev ranks : Accumulator → Part → Option Tree → Bool
ranks accumulator part None = false
ranks accumulator part (Some v) = cond (is_null v) false (is_eq (part_order part (rank accumulator v)))

module _ (accumulator : Accumulator) (p : PosTree) (d : Row) (rows : Positioned) where
  abbrev put_at : Tree → Positioned
  put_at v = put (rank accumulator v ∷ p) d rows

  positioned-with : (o : Option Tree) → IsPositioned rows → IsExact p → IsPositioned (with_ranked accumulator o p d rows)
  positioned-with None are exact = are
  positioned-with (Some v) are exact = either (λ (es : Positioned). IsPositioned es) (is_null v) rows (put_at v) are (positioned-put (rank accumulator v ∷ p) d rows are (exact-rank accumulator v, exact))

  none-with : (o : Option Tree) → at [] (with_ranked accumulator o p d rows) ≡ at [] rows
  none-with None = refl
  none-with (Some v) = either (λ es. at [] es ≡ at [] rows) (is_null v) rows (put_at v) refl (at-put [] (rank accumulator v ∷ p) d rows)

  at-with : (part : Part) (q : PosTree) (o : Option Tree) → at (part ∷ q) (with_ranked accumulator o p d rows) ≡ cond (is_eq (pos_order q p)) (cond (ranks accumulator part o) (Some d) (at (part ∷ q) rows)) (at (part ∷ q) rows)
  at-with part q None = either-same (is_eq (pos_order q p)) (at (part ∷ q) rows)
  at-with part q (Some v) = by (is_null v)
    where
      by : (n : Bool) → at (part ∷ q) (cond n rows (put_at v)) ≡ cond (is_eq (pos_order q p)) (cond (cond n false (is_eq (part_order part (rank accumulator v)))) (Some d) (at (part ∷ q) rows)) (at (part ∷ q) rows)
      by true = either-same (is_eq (pos_order q p)) (at (part ∷ q) rows)
      by false = at-put (part ∷ q) (rank accumulator v ∷ p) d rows ∙ in-two (part_order part (rank accumulator v)) (pos_order q p) (Some d) (at (part ∷ q) rows)

  without-with : (o : Option Tree) → IsPositioned rows → IsExact p → ((part : Part) → at (part ∷ p) rows ≡ None) → without_ranked accumulator o p (with_ranked accumulator o p d rows) ≡ rows
  without-with None are exact none = refl
  without-with (Some v) are exact none = by (is_null v)
    where
      by : (n : Bool) → cond n (cond n rows (put_at v)) (gone (rank accumulator v ∷ p) (cond n rows (put_at v))) ≡ rows
      by true = refl
      by false = put-gone (rank accumulator v ∷ p) d rows are (exact-rank accumulator v, exact) (none (rank accumulator v))

-- ---- the ranked rows after a change of a row

module _ (a : Accumulation) where
  abbrev ranks_at : Part → Row → Bool
  ranks_at part d = ranks a.accumulator part (field_value a d)

  pub ranked-positioned : (rows : Positioned) → IsPositioned rows → IsPositioned (ranked_over a rows)
  ranked-positioned [] are = positioned-none
  ranked-positioned (r ∷ rows) are = positioned-with a.accumulator r.0 r.1 (ranked_over a rows) (field_value a r.1) (ranked-positioned rows (positioned-tail r rows are)) are.exact.0

  none-ranked : (rows : Positioned) → at [] (ranked_over a rows) ≡ None
  none-ranked [] = refl
  none-ranked (r ∷ rows) = none-with a.accumulator r.0 r.1 (ranked_over a rows) (field_value a r.1) ∙ none-ranked rows

  -- a row that passes is added where there was none
  comes : (f : Row → Bool) (b : Bool) (d : Row) (there : Option Row) → (b ≡ true → there ≡ None) → cond b (cond (f d) (Some d) (option_filter f there)) (option_filter f there) ≡ option_filter f (cond b (Some d) there)
  comes f true d there none = ap (λ s. cond (f d) (Some d) (option_filter f s)) (none refl)
  comes f false d there none = refl

  -- at a part and a position is the row of the position, if it ranks at the part
  at-ranked : (part : Part) (q : PosTree) (rows : Positioned) → IsPositioned rows → at (part ∷ q) (ranked_over a rows) ≡ option_filter (ranks_at part) (at q rows)
  at-ranked part q [] are = refl
  at-ranked part q (r ∷ rows) are =
      at-with a.accumulator r.0 r.1 (ranked_over a rows) part q (field_value a r.1)
      ∙ ap (λ s. cond (is_eq (pos_order q r.0)) (cond (ranks_at part r.1) (Some r.1) s) s) (at-ranked part q rows (positioned-tail r rows are))
      ∙ comes (ranks_at part) (is_eq (pos_order q r.0)) r.1 (at q rows) (past q r rows are)

  -- one more row, at a position where there is none
  pub ranked-put : (p : PosTree) (d : Row) (rows : Positioned) → IsPositioned rows → IsExact p → at p rows ≡ None → ranked_over a (put p d rows) ≡ with_ranked a.accumulator (field_value a d) p d (ranked_over a rows)
  ranked-put p d rows are exact none = same_rows (ranked_over a (put p d rows)) (with_ranked a.accumulator (field_value a d) p d (ranked_over a rows)) (ranked-positioned (put p d rows) after) (positioned-with a.accumulator p d (ranked_over a rows) (field_value a d) (ranked-positioned rows are) exact) by
    where
      after : IsPositioned (put p d rows)
      after = positioned-put p d rows are exact

      by : (q : PosTree) → IsExact q → at q (ranked_over a (put p d rows)) ≡ at q (with_ranked a.accumulator (field_value a d) p d (ranked_over a rows))
      by [] x = none-ranked (put p d rows) ∙ sym (none-with a.accumulator p d (ranked_over a rows) (field_value a d) ∙ none-ranked rows)
      by (part ∷ q) x =
          at-ranked part q (put p d rows) after
          ∙ ap (option_filter (ranks_at part)) (at-put q p d rows)
          ∙ sym (at-with a.accumulator p d (ranked_over a rows) part q (field_value a d)
          ∙ ap (λ s. cond (is_eq (pos_order q p)) (cond (ranks_at part d) (Some d) s) s) (at-ranked part q rows are)
          ∙ comes (ranks_at part) (is_eq (pos_order q p)) d (at q rows) (same-there p d rows are exact None none q))

  -- a row that is at a position is removed
  pub ranked-gone : (p : PosTree) (d : Row) (rows : Positioned) → IsPositioned rows → IsExact p → at p rows ≡ Some d → ranked_over a (gone p rows) ≡ without_ranked a.accumulator (field_value a d) p (ranked_over a rows)
  ranked-gone p d rows are exact some =
      let left : IsPositioned (gone p rows) = positioned-gone p rows are in
      let none : at p (gone p rows) ≡ None = at-gone p p rows are.ascending ∙ ap (λ o. cond (is_eq o) None (at p rows)) (tied_itself pos_order_total p) in
      sym (without-with a.accumulator p d (ranked_over a (gone p rows)) (field_value a d) (ranked-positioned (gone p rows) left) exact (λ part. at-ranked part p (gone p rows) left ∙ ap (option_filter (ranks_at part)) none))
      ∙ ap (without_ranked a.accumulator (field_value a d) p) (sym (ranked-put p d (gone p rows) left exact none) ∙ ap (ranked_over a) (gone-put p d rows are exact some))

-- ---- which of values is better

null-is : (v : Tree) → is_null v ≡ true → v ≡ null
null-is null h = refl
null-is v h = cc

module _ (accumulator : Accumulator) where
  abbrev rank_order : Tree → Tree → Ordering
  rank_order = on (rank accumulator) part_order

  rank_order_total : IsTotalOrder rank_order
  rank_order_total = on_total (rank accumulator) part_order_total

  -- whether the second value ranks before the first
  abbrev behind : Tree → Tree → Bool
  behind v w = is_gt (rank_order v w)

  is-turned : (o : Ordering) → is_gt o ≡ true → ordering_reverse o ≡ Less
  is-turned Less h = cc
  is-turned Equal h = cc
  is-turned Greater h = refl

  behind-trans : (x y z : Tree) → behind x y ≡ true → behind y z ≡ true → behind x z ≡ true
  behind-trans x y z first second =
      let total = rank_order_total in
      ap is_gt (total.antisymm x z ∙ ap ordering_reverse (total.trans z y x (total.antisymm z y ∙ is-turned (rank_order y z) second) (total.antisymm y x ∙ is-turned (rank_order x y) first)))

  -- the value if it ranks before the best one so far, otherwise that one; null is never better
  abbrev better : Tree → Tree → Tree
  better v b = cond (not (is_null v) && (is_null b || behind b v)) v b

  abbrev best_from : Tree → List Tree → Tree
  best_from b [] = b
  best_from b (v ∷ vs) = best_from (better v b) vs

  better-null : (v : Tree) → better v null ≡ v
  better-null v = by (is_null v) refl
    where
      by : (n : Bool) → is_null v ≡ n → cond (not n && true) v null ≡ v
      by true is = sym (null-is v is)
      by false is = refl

  null-better : (v b : Tree) → is_null v ≡ true → better v b ≡ b
  null-better v b is = ap (λ n. cond (not n && (is_null b || behind b v)) v b) is

  both-better : (v b : Tree) → is_null v ≡ false → is_null b ≡ false → better v b ≡ cond (behind b v) v b
  both-better v b some is = λ i. cond (not (some i) && (is i || behind b v)) v b

  -- it doesn't matter which two are compared first
  better-both : (w v b : Tree) → is_null v ≡ false → better w (better v b) ≡ better (better w v) b
  better-both w v b some = by (is_null w) refl (is_null b) refl
    where
      three : is_null w ≡ false → is_null b ≡ false → (t u : Bool) → behind b v ≡ t → behind v w ≡ u → better w (cond t v b) ≡ better (cond u w v) b
      three left right true true t u = both-better w v left some ∙ ap (λ c. cond c w v) u ∙ sym (both-better w b left right ∙ ap (λ c. cond c w b) (behind-trans b v w t u))
      three left right true false t u = both-better w v left some ∙ ap (λ c. cond c w v) u ∙ sym (both-better v b some right ∙ ap (λ c. cond c v b) t)
      three left right false true t u = refl
      three left right false false t u = both-better w b left right ∙ ap (λ c. cond c w b) (upto rank_order_total b v w t u) ∙ sym (both-better v b some right ∙ ap (λ c. cond c v b) t)

      by : (n : Bool) → is_null w ≡ n → (m : Bool) → is_null b ≡ m → better w (better v b) ≡ better (better w v) b
      by true left m right = null-better w (better v b) left ∙ ap (λ x. better x b) (sym (null-better w v left))
      by false left true right = rw (null-is b right) (ap (better w) (better-null v) ∙ sym (better-null (better w v)))
      by false left false right = ap (better w) (both-better v b some right) ∙ three left right (behind b v) (behind v w) refl refl ∙ ap (λ x. better x b) (sym (both-better w v left some))

-- ---- the first of ranked rows

filtered : {A : Type 0} (f : A → Bool) (d : A) (o : Option A) → option_filter f o ≡ Some d → (o ≡ Some d) × (f d ≡ true)
filtered f d None is = cc
filtered f d (Some x) is = by (f x) refl is
  where
    by : (b : Bool) → f x ≡ b → cond b (Some x) None ≡ Some d → (Some x ≡ Some d) × (f d ≡ true)
    by true passes is = (is, cc)
    by false passes is = cc

module _ (a : Accumulation) where
  abbrev rank_of : Tree → Part
  rank_of v = rank a.accumulator v

  module _ (r : PosTree × Row) (rows : Positioned) (are : IsPositioned (r ∷ rows)) where
    abbrev others : Positioned
    others = ranked_over a rows

    -- a row after the first one
    stands-behind : (q : PosTree) (d : Row) → at q rows ≡ Some d → pos_order r.0 q ≡ Less
    stands-behind q d there = pos_order_total.antisymm r.0 q ∙ ap ordering_reverse (by (pos_order q r.0) refl)
      where
        by : (o : Ordering) → pos_order q r.0 ≡ o → o ≡ Greater
        by Less is = absurd (let none = lookup-none (is_at (pos_order q)) rows (none_below_head pos_order_total q r rows are.ascending is).1 in cc)
        by Equal is = absurd (let none = past q r rows are (ap is_eq is) in cc)
        by Greater is = refl

    -- a ranked row after it has a value; the ranks of both rows decide their order, and if they are equal, the first row is first
    abbrev Stands : Tree → PosTree → Row → Type 0
    Stands v q d = (w : Tree) × (field_value a d ≡ Some w) × (is_null w ≡ false) × (pos_order (rank_of v ∷ r.0) q ≡ ordering_then (part_order (rank_of v) (rank_of w)) Less)

    stands : (v : Tree) (q : PosTree) (d : Row) → at q others ≡ Some d → Stands v q d
    stands v [] d there = absurd (let none = none-ranked a rows in cc)
    stands v (part ∷ q) d there = by (field_value a d) refl here.1
      where
        here : (at q rows ≡ Some d) × (ranks a.accumulator part (field_value a d) ≡ true)
        here = filtered (ranks_at a part) d (at q rows) (sym (at-ranked a part q rows (positioned-tail r rows are)) ∙ there)

        by : (o : Option Tree) → field_value a d ≡ o → ranks a.accumulator part o ≡ true → Stands v (part ∷ q) d
        by None is ranked = absurd cc
        by (Some w) is ranked = each (is_null w) refl ranked
          where
            each : (n : Bool) → is_null w ≡ n → cond n false (is_eq (part_order part (rank_of w))) ≡ true → Stands v (part ∷ q) d
            each true none ranked = absurd cc
            each false some ranked = (w, is, some, λ i. ordering_then (alike_right part_order_total part (rank_of w) (rank_of v) ((Equal-is (part_order part (rank_of w))).0 ranked) i) (stands-behind q d here.0 i))

    first-put : (v : Tree) → field_value a r.1 ≡ Some v → is_null v ≡ false → value_of_first a (put (rank_of v ∷ r.0) r.1 others) ≡ better a.accumulator (value_of_first a others) v
    first-put v is some = by others refl
      where
        by : (ranked : Positioned) → others ≡ ranked → value_of_first a (put (rank_of v ∷ r.0) r.1 ranked) ≡ better a.accumulator (value_of_first a ranked) v
        by [] same = ap or_null is
        by (x ∷ xs) same =
            ap (λ o. value_of_first a (match_ordering o ((rank_of v ∷ r.0, r.1) ∷ x ∷ xs) ((x.0, r.1) ∷ xs) (x ∷ put (rank_of v ∷ r.0) r.1 xs))) first.3
            ∙ which (part_order (rank_of v) (rank_of first.0))
            ∙ sym (ap (λ o. better a.accumulator (or_null o) v) first.1 ∙ both-better a.accumulator first.0 v first.2 some)
          where
            first : Stands v x.0 x.1
            first = stands v x.0 x.1 (ap (at x.0) same ∙ ap (λ o. cond (is_eq o) (Some x.1) (at x.0 xs)) (tied_itself pos_order_total x.0))

            which : (o : Ordering) → value_of_first a (match_ordering (ordering_then o Less) ((rank_of v ∷ r.0, r.1) ∷ x ∷ xs) ((x.0, r.1) ∷ xs) (x ∷ put (rank_of v ∷ r.0) r.1 xs)) ≡ cond (is_gt o) first.0 v
            which Less = ap or_null is
            which Equal = ap or_null is
            which Greater = ap or_null first.1

    first-more : (vs : List Tree) → ((b : Tree) → best_from a.accumulator b vs ≡ better a.accumulator (value_of_first a others) b) → (b : Tree) (o : Option Tree) → field_value a r.1 ≡ o
        → best_from a.accumulator b (with_present o vs) ≡ better a.accumulator (value_of_first a (with_ranked a.accumulator o r.0 r.1 others)) b
    first-more vs rest b None is = rest b
    first-more vs rest b (Some v) is = by (is_null v) refl
      where
        by : (n : Bool) → is_null v ≡ n → best_from a.accumulator (better a.accumulator v b) vs ≡ better a.accumulator (value_of_first a (cond n others (put (rank_of v ∷ r.0) r.1 others))) b
        by true none = ap (λ w. best_from a.accumulator w vs) (null-better a.accumulator v b none) ∙ rest b
        by false some = rest (better a.accumulator v b) ∙ better-both a.accumulator (value_of_first a others) v b some ∙ ap (λ w. better a.accumulator w b) (sym (first-put v is some))

  first-from : (rows : Positioned) → IsPositioned rows → (b : Tree) → best_from a.accumulator b (values_over a.argument (forget rows)) ≡ better a.accumulator (value_of_first a (ranked_over a rows)) b
  first-from [] are b = refl
  first-from (r ∷ rows) are b = first-more r rows are (values_over a.argument (forget rows)) (first-from rows (positioned-tail r rows are)) b (field_value a r.1) refl

  first-best : (rows : Positioned) → IsPositioned rows → value_of_first a (ranked_over a rows) ≡ best_from a.accumulator null (values_over a.argument (forget rows))
  first-best rows are = sym (first-from rows are null ∙ better-null a.accumulator (value_of_first a (ranked_over a rows)))

-- ---- the least and the greatest

-- an extreme is the value that ranks best, if values are ordered as ranks are
extreme-best : (e : _) (accumulator : Accumulator) → of_none accumulator ≡ extreme_state e null → ((v w : Tree) → is_gt (part_order (rank accumulator v) (rank accumulator w)) ≡ extreme_stands_so e (order w v)) → (vs : List Tree) (b : Tree) → best_from accumulator b vs ≡ extreme_from e b vs
extreme-best e accumulator of so [] b = refl
extreme-best e accumulator of so (v ∷ vs) b = ap (λ s. best_from accumulator (cond (not (is_null v) && (is_null b || s)) v b) vs) (so b v) ∙ extreme-best e accumulator of so vs (cond (not (is_null v) && (is_null b || extreme_stands_so e (order v b))) v b)

turned : (o : Ordering) → is_gt o ≡ is_lt (ordering_reverse o)
turned Less = refl
turned Equal = refl
turned Greater = refl

-- the first ranked row has the least value
pub first-least : (a : Accumulation) (rows : Positioned) → a.accumulator ≡ Min → IsPositioned rows → value_of_first a (ranked_over a rows) ≡ accumulated Min (values_over a.argument (forget rows))
first-least a rows is are =
    first-best a rows are ∙ ap (λ accumulator. best_from accumulator null (values_over a.argument (forget rows))) is
    ∙ extreme-best _ Min refl (λ v w. ap is_gt (order_of_canon v w) ∙ turned (order v w) ∙ ap is_lt (sym (order_total.antisymm w v))) (values_over a.argument (forget rows)) null

-- or the greatest
pub first-greatest : (a : Accumulation) (rows : Positioned) → a.accumulator ≡ Max → IsPositioned rows → value_of_first a (ranked_over a rows) ≡ accumulated Max (values_over a.argument (forget rows))
first-greatest a rows is are =
    first-best a rows are ∙ ap (λ accumulator. best_from accumulator null (values_over a.argument (forget rows))) is
    ∙ extreme-best _ Max refl (λ v w. ap is_gt (order_of_canon w v)) (values_over a.argument (forget rows)) null
