-- The difference of two lists of rows, applied to the old list, gives the new one.
use Rattle.std.specs.Prelude.{◌≡◌, Bool, true, false, not, cond, List, [], ◌∷◌, ◌++◌, map, Option, Some, None, is_none, is_some, refl}
use Rattle.std.proofs.Common.{ap, sym, ◌∙◌, ◌⊎◌, inl, inr, ◌≤◌, ◌+◌, length, arith}
use Rattle.std.specs.declared.cmp.Ordering.TheVariants.{Less, Equal}
use Rattle.std.specs.Ordering.{is_eq}
use Rattle.std.specs.Cmp.{Equal-is}
use Rattle.std.specs.List.{AllByRecursion, filter}
use Rattle.std.specs.List.Sorted.{IsStrictlySortedBy}
use Rattle.std.specs.Map.{keys_of}
use Rattle.std.proofs.lemmas.Map.Entries.{option_filter}
use Rattle.std.proofs.lemmas.List.{length-append, length-map}
use Rattle.dv_value.specs.Tree.{Field, fields_of}
use Rattle.dv_value.specs.Inner.ListLaws.{filter-length}
use Rattle.dv_order.specs.Same.{same_fields}
use Rattle.dv_order.specs.Inner.SameLaws.{same_documents}
use Rattle.dv_change.specs.declared.change.Change.{Change}
use Rattle.dv_change.specs.declared.change.Change.TheVariants.{Put, Gone}
use Rattle.dv_change.specs.Positions.{IsExact, PosTree, pos_order}
use Rattle.dv_change.specs.Changes.{Positioned, at, with_change, with_changes}
use Rattle.dv_change.specs.Inner.Changes.{IsExactChange, IsPositioned, alone, position_changed, row_in}
use Rattle.dv_change.specs.Difference.{diff, gones, puts, stands_as}
use Rattle.dv_change.specs.Inner.Ordered.{found_at, gone, put}
use Rattle.dv_change.specs.Inner.RowLaws.{at-gone, at-like, at-put, at_back, past, positioned-gone, positioned-none, positioned-put, positioned-tail, same_rows}

-- ---- lists without what fails a test

module _ {V : Type 0} (f : PosTree × V → Bool) where
  pub all-filter : (P : PosTree → Type 0) (es : List (PosTree × V)) → AllByRecursion P (keys_of es) → AllByRecursion P (keys_of (filter f es))
  all-filter P [] all = tt
  all-filter P (e ∷ es) all = by (f e) (all-filter P es all.1)
    where
      by : (b : Bool) → AllByRecursion P (keys_of (filter f es)) → AllByRecursion P (keys_of (cond b (e ∷ filter f es) (filter f es)))
      by true rest = (all.0, rest)
      by false rest = rest

  sorted-filter : (es : List (PosTree × V)) → IsStrictlySortedBy pos_order (keys_of es) → IsStrictlySortedBy pos_order (keys_of (filter f es))
  unfolding IsStrictlySortedBy
  sorted-filter [] s = tt
  sorted-filter (e ∷ es) s = by (f e) (sorted-filter es s.1)
    where
      by : (b : Bool) → IsStrictlySortedBy pos_order (keys_of (filter f es)) → IsStrictlySortedBy pos_order (keys_of (cond b (e ∷ filter f es) (filter f es)))
      by true rest = (all-filter (λ y. pos_order e.0 y ≡ Less) es s.0, rest)
      by false rest = rest

  pub positioned-filter : (es : List (PosTree × V)) → IsPositioned es → IsPositioned (filter f es)
  positioned-filter es are = record { ascending = sorted-filter es are.ascending; exact = all-filter IsExact es are.exact }

  -- the value at a position, if it passes
  pub at-filter : (q : PosTree) (g : V → Bool) → ((p : PosTree) (v : V) → pos_order q p ≡ Equal → f (p, v) ≡ g v) → (es : List (PosTree × V)) → IsPositioned es → found_at q (filter f es) ≡ option_filter g (found_at q es)
  at-filter q g alike [] are = refl
  at-filter q g alike (e ∷ es) are = by (f e) (is_eq (pos_order q e.0)) refl refl (at-filter q g alike es (positioned-tail e es are))
    where
      by : (b c : Bool) → f e ≡ b → is_eq (pos_order q e.0) ≡ c → found_at q (filter f es) ≡ option_filter g (found_at q es)
          → found_at q (cond b (e ∷ filter f es) (filter f es)) ≡ option_filter g (cond (is_eq (pos_order q e.0)) (Some e.1) (found_at q es))
      by true true passes here rest =
          let kept : g e.1 ≡ true = sym (alike e.0 e.1 ((Equal-is (pos_order q e.0)).0 here)) ∙ passes in
          rw here (ap (λ t. cond t (Some e.1) None) (sym kept))
      by false true passes here rest =
          let kept : g e.1 ≡ false = sym (alike e.0 e.1 ((Equal-is (pos_order q e.0)).0 here)) ∙ passes in
          rest ∙ ap (option_filter g) (past q e es are here) ∙ rw here (ap (λ t. cond t (Some e.1) None) (sym kept))
      by true false passes here rest = rw here rest
      by false false passes here rest = rw here rest

-- ---- some changes, one after the other

pub positioned-changes : (rows : Positioned) (changes : List Change) → IsPositioned rows → AllByRecursion IsExactChange changes → IsPositioned (with_changes rows changes)
positioned-changes rows [] are exact = are
positioned-changes rows (Put pos row ∷ changes) are exact = positioned-changes (put pos row rows) changes (positioned-put pos row rows are exact.0) exact.1
positioned-changes rows (Gone pos ∷ changes) are exact = positioned-changes (gone pos rows) changes (positioned-gone pos rows are) exact.1

abbrev all_go : Positioned → List Change
all_go es = map (λ e. Gone e.0) es

abbrev all_come : Positioned → List Change
all_come es = map (λ e. Put e.0 e.1) es

-- the first, or if there is none, the second
abbrev pub or_else : {A : Type 0} → Option A → Option A → Option A
or_else None b = b
or_else (Some a) b = Some a

gone_twice : {A : Type 0} (b : Bool) (v : A) (s : Option A) (r : Option A) → cond (is_some s) None (cond b None r) ≡ cond (is_some (cond b (Some v) s)) None r
gone_twice true v None r = refl
gone_twice true v (Some x) r = refl
gone_twice false v None r = refl
gone_twice false v (Some x) r = refl

pub at-all_go : (q : PosTree) (es rows : Positioned) → IsPositioned rows → at q (with_changes rows (all_go es)) ≡ cond (is_some (at q es)) None (at q rows)
at-all_go q [] rows are = refl
at-all_go q (e ∷ es) rows are =
    at-all_go q es (gone e.0 rows) (positioned-gone e.0 rows are)
    ∙ ap (cond (is_some (at q es)) None) (at-gone q e.0 rows are.ascending ∙ ap (λ b. cond b None (at q rows)) (at_back e.0 q))
    ∙ gone_twice (is_eq (pos_order q e.0)) e.1 (at q es) (at q rows)

pub come_twice : {A : Type 0} (b : Bool) (v : A) (s r : Option A) → (b ≡ true → s ≡ None) → or_else s (cond b (Some v) r) ≡ or_else (cond b (Some v) s) r
come_twice true v s r none = ap (λ t. or_else t (Some v)) (none refl)
come_twice false v s r none = refl

at-all_come : (q : PosTree) (es rows : Positioned) → IsPositioned es → at q (with_changes rows (all_come es)) ≡ or_else (at q es) (at q rows)
at-all_come q [] rows are = refl
at-all_come q (e ∷ es) rows are =
    at-all_come q es (put e.0 e.1 rows) (positioned-tail e es are)
    ∙ ap (or_else (at q es)) (at-put q e.0 e.1 rows)
    ∙ come_twice (is_eq (pos_order q e.0)) e.1 (at q es) (at q rows) (past q e es are)

exact-go : (es : Positioned) → AllByRecursion IsExact (keys_of es) → AllByRecursion IsExactChange (all_go es)
exact-go [] exact = tt
exact-go (e ∷ es) exact = (exact.0, exact-go es exact.1)

exact-come : (es : Positioned) → AllByRecursion IsExact (keys_of es) → AllByRecursion IsExactChange (all_come es)
exact-come [] exact = tt
exact-come (e ∷ es) exact = (exact.0, exact-come es exact.1)

pub exact-both : (some others : List Change) → AllByRecursion IsExactChange some → AllByRecursion IsExactChange others → AllByRecursion IsExactChange (some ++ others)
exact-both [] others s o = o
exact-both (change ∷ some) others s o = (s.0, exact-both some others s.1 o)

abbrev pub went : Positioned → PosTree × List Field → Bool
went new e = is_none (at e.0 new)

abbrev pub row_differs : Positioned → PosTree × List Field → Bool
row_differs old e = not (stands_as (at e.0 old) e.1)

pub exact-diff : (old new : Positioned) → IsPositioned old → IsPositioned new → AllByRecursion IsExactChange (diff old new)
exact-diff old new o n =
    exact-both (gones old new) (puts old new) (exact-go (filter (went new) old) (positioned-filter (went new) old o).exact) (exact-come (filter (row_differs old) new) (positioned-filter (row_differs old) new n).exact)

-- what is removed and what is put at a position
pub at-went : (old new : Positioned) (q : PosTree) → IsPositioned old → at q (filter (went new) old) ≡ option_filter (λ v. is_none (at q new)) (at q old)
at-went old new q o = at-filter (went new) q (λ v. is_none (at q new)) (λ p v e. ap is_none (sym (at-like q p e new))) old o

pub at-differs : (old new : Positioned) (q : PosTree) → IsPositioned new → at q (filter (row_differs old) new) ≡ option_filter (λ v. not (stands_as (at q old) v)) (at q new)
at-differs old new q n = at-filter (row_differs old) q (λ v. not (stands_as (at q old) v)) (λ p v e. ap (λ a. not (stands_as a v)) (sym (at-like q p e old))) new n

pub with_changes-both : (rows : Positioned) (some others : List Change) → with_changes rows (some ++ others) ≡ with_changes (with_changes rows some) others
with_changes-both rows [] others = refl
with_changes-both rows (change ∷ some) others = with_changes-both (with_change rows change) some others

settled : (a b : Option (List Field)) → or_else (option_filter (λ v. not (stands_as a v)) b) (cond (is_some (option_filter (λ v. is_none b) a)) None a) ≡ b
settled None None = refl
settled None (Some v) = refl
settled (Some d) None = refl
settled (Some d) (Some v) = by (same_fields (fields_of d) (fields_of v)) refl
  where
    by : (s : Bool) → same_fields (fields_of d) (fields_of v) ≡ s → or_else (cond (not s) (Some v) None) (Some d) ≡ Some v
    by true same = ap Some ((same_documents d v).0 same)
    by false same = refl

-- the first list after the changes to the second is the second
pub apply-diff : (old new : Positioned) → IsPositioned old → IsPositioned new → with_changes old (diff old new) ≡ new
apply-diff old new o n =
    same_rows (with_changes old (diff old new)) new (positioned-changes old (diff old new) o (exact-diff old new o n)) n (λ q exact.
    let left = filter (went new) old in
    let came = filter (row_differs old) new in
    let left_at = at-went old new q o in
    let came_at = at-differs old new q n in
    ap (at q) (with_changes-both old (all_go left) (all_come came))
    ∙ at-all_come q came (with_changes old (all_go left)) (positioned-filter (row_differs old) new n)
    ∙ ap (or_else (at q came)) (at-all_go q left old o)
    ∙ (λ i. or_else (came_at i) (cond (is_some (left_at i)) None (at q old)))
    ∙ settled (at q old) (at q new))

-- ---- lists that differ in parts of them

-- at a position the parts have what the lists have; or the parts have nothing there, and both lists have the same
abbrev pub IsPartAt : (old new before after : Positioned) → PosTree → Type 0
IsPartAt old new before after q = ((at q before ≡ at q old) × (at q after ≡ at q new)) ⊎ ((at q before ≡ None) × (at q after ≡ None) × (at q old ≡ at q new))

none_went : (a : Option (List Field)) → option_filter (λ v. is_none a) a ≡ None
none_went None = refl
none_went (Some v) = refl

none_differs : (a : Option (List Field)) → option_filter (λ v. not (stands_as a v)) a ≡ None
none_differs None = refl
none_differs (Some v) = by (same_fields (fields_of v) (fields_of v)) ((same_documents v v).1 refl)
  where
    by : (b : Bool) → b ≡ true → cond (not b) (Some v) None ≡ None
    by true e = refl
    by false e = cc

module _ (old new before after : Positioned) where
  went-there : (q : PosTree) → IsPartAt old new before after q → option_filter (λ v. is_none (at q new)) (at q old) ≡ option_filter (λ v. is_none (at q after)) (at q before)
  went-there q (inl both) = λ i. option_filter (λ v. is_none (sym both.1 i)) (sym both.0 i)
  went-there q (inr same) =
      ap (option_filter (λ v. is_none (at q new))) same.2 ∙ none_went (at q new) ∙ sym (ap (option_filter (λ v. is_none (at q after))) same.0)

  came-there : (q : PosTree) → IsPartAt old new before after q → option_filter (λ v. not (stands_as (at q old) v)) (at q new) ≡ option_filter (λ v. not (stands_as (at q before) v)) (at q after)
  came-there q (inl both) = λ i. option_filter (λ v. not (stands_as (sym both.0 i) v)) (sym both.1 i)
  came-there q (inr same) =
      ap (option_filter (λ v. not (stands_as (at q old) v))) (sym same.2) ∙ none_differs (at q old) ∙ sym (ap (option_filter (λ v. not (stands_as (at q before) v))) same.1)

  -- what is removed is the same, and so is what is put
  pub goes-alike : IsPositioned old → IsPositioned before → ((q : PosTree) → IsExact q → IsPartAt old new before after q) → filter (went new) old ≡ filter (went after) before
  goes-alike o b parts =
      same_rows (filter (went new) old) (filter (went after) before) (positioned-filter (went new) old o) (positioned-filter (went after) before b) (λ q exact.
      at-went old new q o ∙ went-there q (parts q exact) ∙ sym (at-went before after q b))

  pub comes-alike : IsPositioned new → IsPositioned after → ((q : PosTree) → IsExact q → IsPartAt old new before after q) → filter (row_differs old) new ≡ filter (row_differs before) after
  comes-alike n a parts =
      same_rows (filter (row_differs old) new) (filter (row_differs before) after) (positioned-filter (row_differs old) new n) (positioned-filter (row_differs before) after a) (λ q exact.
      at-differs old new q n ∙ came-there q (parts q exact) ∙ sym (at-differs before after q a))

  -- their difference is that of the parts
  pub diff-parts : IsPositioned old → IsPositioned new → IsPositioned before → IsPositioned after → ((q : PosTree) → IsExact q → IsPartAt old new before after q) → diff old new ≡ diff before after
  diff-parts o n b a parts =
      let goes = goes-alike o b parts in
      let comes = comes-alike n a parts in
      λ i. all_go (goes i) ++ all_come (comes i)

-- ---- rows after a change

pub at-changed : (q : PosTree) (rows : Positioned) (change : Change) → IsPositioned rows → at q (with_change rows change) ≡ cond (is_eq (pos_order q (position_changed change))) (row_in change) (at q rows)
at-changed q rows (Put p r) are = at-put q p r rows
at-changed q rows (Gone p) are = at-gone q p rows are.ascending ∙ ap (λ b. cond b None (at q rows)) (at_back p q)

pub positioned-changed : (rows : Positioned) (change : Change) → IsPositioned rows → IsExactChange change → IsPositioned (with_change rows change)
positioned-changed rows (Put p r) are exact = positioned-put p r rows are exact
positioned-changed rows (Gone p) are exact = positioned-gone p rows are

pub exact-place : (change : Change) → IsExactChange change → IsExact (position_changed change)
exact-place (Put p r) exact = exact
exact-place (Gone p) exact = exact

pub positioned-alone : (p : PosTree) (row : Option (List Field)) → IsExact p → IsPositioned (alone p row)
positioned-alone p None exact = positioned-none
positioned-alone p (Some v) exact = positioned-put p v [] positioned-none exact

pub at-alone : (q p : PosTree) (row : Option (List Field)) → at q (alone p row) ≡ cond (is_eq (pos_order q p)) row None
at-alone q p None = by (is_eq (pos_order q p))
  where
    by : (b : Bool) → at q [] ≡ cond b None None
    by true = refl
    by false = refl
at-alone q p (Some v) = refl

-- ---- how many changes there are

pub gones-length : (old new : Positioned) → length (gones old new) ≤ length old
gones-length old new = omega (arith, length-map (filter (λ e. is_none (at e.0 new)) old) (λ (e : PosTree × List Field). Gone e.0), filter-length (λ e. is_none (at e.0 new)) old)

pub puts-length : (old new : Positioned) → length (puts old new) ≤ length new
puts-length old new = omega (arith, length-map (filter (λ e. not (stands_as (at e.0 old) e.1)) new) (λ (e : PosTree × List Field). Put e.0 e.1), filter-length (λ e. not (stands_as (at e.0 old) e.1)) new)

pub diff-length : (old new : Positioned) → length (diff old new) ≤ length old + length new
diff-length old new = omega (arith, length-append (gones old new) (puts old new), gones-length old new, puts-length old new)
