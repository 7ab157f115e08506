-- Rows that pass a test: among others, put into others, and after a change.
use Rattle.std.specs.Prelude.{◌≡◌, Bool, true, false, ◌||◌, cond, List, [], ◌∷◌, filter, Option, Some, None, slice_get, drop, refl}
use Rattle.std.proofs.Common.{ap, sym, ◌∙◌}
use Rattle.std.proofs.lemmas.Map.Entries.{option_filter}
use Rattle.std.specs.List.{AllByRecursion}
use Rattle.std.specs.Cmp.{Equal-is}
use Rattle.std.specs.Map.{keys_of}
use Rattle.std.specs.Ordering.{is_eq}
use Rattle.dv_value.specs.Tree.{Field}
use Rattle.dv_change.specs.declared.change.Change.{Change}
use Rattle.dv_change.specs.Changes.{Positioned, at, forget, with_change}
use Rattle.dv_change.specs.Inner.Changes.{IsExactChange, IsPositioned, position_changed, row_in}
use Rattle.dv_change.specs.Inner.DiffLaws.{at-changed, at-filter, come_twice, exact-place, or_else, positioned-changed, positioned-filter}
use Rattle.dv_change.specs.Inner.Ordered.{gone, put}
use Rattle.dv_change.specs.Positions.{IsExact, PosTree, pos_order}
use Rattle.dv_change.specs.Inner.RowLaws.{at-gone, at-like, at-put, at_back, past, positioned-gone, positioned-none, positioned-put, positioned-tail, same_rows}
use Rattle.dv_join.specs.Inner.Indexed.{moved_in_index, row_set}
use Rattle.dv_join.specs.Inner.Listed.{with_each_row}
use Rattle.dv_join.specs.Inner.Turning.{if_any}

-- ---- filters

pub forget-filter : (test : List Field → Bool) (es : Positioned) → forget (filter (λ e. test e.1) es) ≡ filter test (forget es)
forget-filter test [] = refl
forget-filter test (e ∷ es) = by (test e.1) (forget-filter test es)
  where
    by : (b : Bool) → forget (filter (λ e. test e.1) es) ≡ filter test (forget es) → forget (cond b (e ∷ filter (λ e. test e.1) es) (filter (λ e. test e.1) es)) ≡ cond b (e.1 ∷ filter test (forget es)) (filter test (forget es))
    by true rest = ap (λ ds. e.1 ∷ ds) rest
    by false rest = rest

-- the row at a position among the rows that pass
pub at-passing : (test : List Field → Bool) (q : PosTree) (es : Positioned) → IsPositioned es → at q (filter (λ e. test e.1) es) ≡ option_filter test (at q es)
at-passing test q es are = at-filter (λ e. test e.1) q test (λ p v e. refl) es are

-- no row passes a test that is always false
pub none-passing : (es : Positioned) → [] ≡ filter (λ e. false) es
none-passing [] = refl
none-passing (e ∷ es) = none-passing es

-- ---- rows put among others

-- if there is a first one, the others follow it
pub first-of : {V : Type 0} (es : List (PosTree × V)) (e : PosTree × V) → slice_get es 0 ≡ Some e → es ≡ e ∷ drop 1 es
first-of [] e is = absurd cc
first-of (x ∷ es) e is = let same : x ≡ e = cc in ap (λ y. y ∷ es) same

pub none-of : {V : Type 0} (es : List (PosTree × V)) → slice_get es 0 ≡ None → es ≡ []
none-of [] e = refl
none-of (x ∷ es) e = absurd cc

-- the first one put, and then the others
pub begun : (es others rest first : Positioned) (e : PosTree × List Field) → slice_get others 0 ≡ Some e → rest ≡ drop 1 others → first ≡ put e.0 e.1 es → with_each_row first rest ≡ with_each_row es others
begun es others rest first e is behind put-first = (λ i. with_each_row (put-first i) (behind i)) ∙ ap (with_each_row es) (sym (first-of others e is))

pub at-with_all : (q : PosTree) (es others : Positioned) → IsPositioned others → at q (with_each_row es others) ≡ or_else (at q others) (at q es)
at-with_all q es [] are = refl
at-with_all q es (e ∷ others) are =
    at-with_all q (put e.0 e.1 es) others (positioned-tail e others are)
    ∙ ap (or_else (at q others)) (at-put q e.0 e.1 es)
    ∙ come_twice (is_eq (pos_order q e.0)) e.1 (at q others) (at q es) (past q e others are)

pub positioned-with_all : (es others : Positioned) → IsPositioned es → AllByRecursion IsExact (keys_of others) → IsPositioned (with_each_row es others)
positioned-with_all es [] are exact = are
positioned-with_all es (e ∷ others) are exact = positioned-with_all (put e.0 e.1 es) others (positioned-put e.0 e.1 es are exact.0) exact.1

or-nothing : {A : Type 0} (a : Option A) → or_else a None ≡ a
or-nothing None = refl
or-nothing (Some v) = refl

-- rows put one after the other into an empty list are these rows
pub with_all-none : (es : Positioned) → IsPositioned es → with_each_row [] es ≡ es
with_all-none es are = same_rows (with_each_row [] es) es (positioned-with_all [] es positioned-none are.exact) are (λ q exact. at-with_all q [] es are ∙ or-nothing (at q es))

-- rows that pass one test put among those that pass another
pub with_all-passing : (f g : List Field → Bool) (rows : Positioned) → IsPositioned rows → with_each_row (filter (λ e. f e.1) rows) (filter (λ e. g e.1) rows) ≡ filter (λ e. f e.1 || g e.1) rows
with_all-passing f g rows are =
    let some = filter (λ (e : PosTree × List Field). f e.1) rows in
    let others = filter (λ (e : PosTree × List Field). g e.1) rows in
    let some-are : IsPositioned some = positioned-filter (λ e. f e.1) rows are in
    let others-are : IsPositioned others = positioned-filter (λ e. g e.1) rows are in
    same_rows (with_each_row some others) (filter (λ e. f e.1 || g e.1) rows) (positioned-with_all some others some-are others-are.exact) (positioned-filter (λ e. f e.1 || g e.1) rows are) (λ q exact.
    at-with_all q some others others-are
    ∙ (λ i. or_else (at-passing g q rows are i) (at-passing f q rows are i))
    ∙ both (at q rows)
    ∙ sym (at-passing (λ d. f d || g d) q rows are))
  where
    either : (a b : Bool) (d : List Field) → or_else (cond b (Some d) None) (cond a (Some d) None) ≡ cond (a || b) (Some d) None
    either true true d = refl
    either true false d = refl
    either false true d = refl
    either false false d = refl

    both : (o : Option (List Field)) → or_else (option_filter g o) (option_filter f o) ≡ option_filter (λ d. f d || g d) o
    both None = refl
    both (Some d) = either (f d) (g d) d

-- ---- after a change

positioned-went : (p : PosTree) (had : Bool) (es : Positioned) → IsPositioned es → IsPositioned (cond had (gone p es) es)
positioned-went p true es are = positioned-gone p es are
positioned-went p false es are = are

positioned-set : (p : PosTree) (row : Option (List Field)) (es : Positioned) → IsExact p → IsPositioned es → IsPositioned (row_set p row es)
positioned-set p None es exact are = positioned-gone p es are
positioned-set p (Some d) es exact are = positioned-put p d es are exact

positioned-moved : (p : PosTree) (had : Bool) (row : Option (List Field)) (has : Bool) (es : Positioned) → IsExact p → IsPositioned es → IsPositioned (moved_in_index p had row has es)
positioned-moved p had row true es exact are = positioned-set p row es exact are
positioned-moved p had row false es exact are = positioned-went p had es are

at-went : (q p : PosTree) (had : Bool) (es : Positioned) → IsPositioned es → at q (cond had (gone p es) es) ≡ cond had (cond (is_eq (pos_order q p)) None (at q es)) (at q es)
at-went q p true es are = at-gone q p es are.ascending ∙ ap (λ b. cond b None (at q es)) (at_back p q)
at-went q p false es are = refl

at-set : (q p : PosTree) (row : Option (List Field)) (es : Positioned) → IsPositioned es → at q (row_set p row es) ≡ cond (is_eq (pos_order q p)) row (at q es)
at-set q p None es are = at-gone q p es are.ascending ∙ ap (λ b. cond b None (at q es)) (at_back p q)
at-set q p (Some d) es are = at-put q p d es

at-moved : (q p : PosTree) (had : Bool) (row : Option (List Field)) (has : Bool) (es : Positioned) → IsPositioned es
    → at q (moved_in_index p had row has es) ≡ cond has (cond (is_eq (pos_order q p)) row (at q es)) (cond had (cond (is_eq (pos_order q p)) None (at q es)) (at q es))
at-moved q p had row true es are = at-set q p row es are
at-moved q p had row false es are = at-went q p had es are

module _ (test : List Field → Bool) where
  same-both : {A : Type 0} (b : Bool) (a : A) → cond b a a ≡ a
  same-both true a = refl
  same-both false a = refl

  -- an old row that passed is removed
  none-left : (old : Option (List Field)) → cond (if_any test old) None (option_filter test old) ≡ None
  none-left None = refl
  none-left (Some d) = by (test d)
    where
      by : (b : Bool) → cond b None (cond b (Some d) None) ≡ None
      by true = refl
      by false = refl

  kept : (row : Option (List Field)) → cond (if_any test row) row None ≡ option_filter test row
  kept None = refl
  kept (Some d) = refl

  exchanged : (b : Bool) (row old there : Option (List Field)) → (b ≡ true → there ≡ old)
      → option_filter test (cond b row there) ≡ cond (if_any test row) (cond b row (option_filter test there)) (cond (if_any test old) (cond b None (option_filter test there)) (option_filter test there))
  exchanged true row old there h = sym (ap (λ a. cond (if_any test row) row (cond (if_any test old) None (option_filter test a))) (h refl) ∙ ap (cond (if_any test row) row) (none-left old) ∙ kept row)
  exchanged false row old there h = sym (ap (cond (if_any test row) (option_filter test there)) (same-both (if_any test old) (option_filter test there)) ∙ same-both (if_any test row) (option_filter test there))

  -- the rows that pass, after a change
  pub passing-changed : (rows : Positioned) (change : Change) → IsPositioned rows → IsExactChange change
      → filter (λ e. test e.1) (with_change rows change) ≡ moved_in_index (position_changed change) (if_any test (at (position_changed change) rows)) (row_in change) (if_any test (row_in change)) (filter (λ e. test e.1) rows)
  passing-changed rows change are exact =
      let p = position_changed change in
      let old = at p rows in
      let row = row_in change in
      let some = filter (λ (e : PosTree × List Field). test e.1) rows in
      let some-are : IsPositioned some = positioned-filter (λ e. test e.1) rows are in
      let after = positioned-changed rows change are exact in
      same_rows (filter (λ e. test e.1) (with_change rows change)) (moved_in_index p (if_any test old) row (if_any test row) some) (positioned-filter (λ e. test e.1) (with_change rows change) after) (positioned-moved p (if_any test old) row (if_any test row) some (exact-place change exact) some-are) (λ q x.
      at-passing test q (with_change rows change) after
      ∙ ap (option_filter test) (at-changed q rows change are)
      ∙ exchanged (is_eq (pos_order q p)) row old (at q rows) (λ beside. at-like q p ((Equal-is (pos_order q p)).0 beside) rows)
      ∙ sym (at-moved q p (if_any test old) row (if_any test row) some some-are ∙ ap (λ a. cond (if_any test row) (cond (is_eq (pos_order q p)) row a) (cond (if_any test old) (cond (is_eq (pos_order q p)) None a) a)) (at-passing test q rows are)))

  -- if neither the old row nor the new one passes, the same rows pass
  pub passing-same : (rows : Positioned) (change : Change) → IsPositioned rows → IsExactChange change → if_any test (at (position_changed change) rows) ≡ false → if_any test (row_in change) ≡ false
      → filter (λ e. test e.1) (with_change rows change) ≡ filter (λ e. test e.1) rows
  passing-same rows change are exact went came =
      passing-changed rows change are exact ∙ (λ i. moved_in_index (position_changed change) (went i) (row_in change) (came i) (filter (λ e. test e.1) rows))
