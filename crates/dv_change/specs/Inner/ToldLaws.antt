-- Changes one after the other, each with what was at its position.
use Rattle.std.specs.Prelude.{◌≡◌, suc, Bool, true, false, not, cond, List, [], ◌∷◌, ◌++◌, length, map, Option, Some, None, is_none, is_some, refl}
use Rattle.std.proofs.Common.{ap, sym, ◌∙◌, inl, inr}
use Rattle.std.specs.declared.cmp.Ordering.TheVariants.{Less}
use Rattle.std.specs.Ordering.{is_eq}
use Rattle.std.specs.Cmp.{tied_itself}
use Rattle.std.specs.List.{AllByRecursion, filter}
use Rattle.std.specs.List.Sorted.{IsStrictlySortedBy}
use Rattle.std.specs.Map.{keys_of}
use Rattle.std.proofs.lemmas.Map.Entries.{option_filter}
use Rattle.dv_value.specs.Tree.{Field}
use Rattle.dv_change.specs.declared.change.Change.{Change}
use Rattle.dv_change.specs.declared.change.Change.TheVariants.{Put, Gone}
use Rattle.dv_change.specs.Changes.{Positioned, at, with_change, with_changes}
use Rattle.dv_change.specs.Inner.Changes.{IsPositioned, alone}
use Rattle.dv_change.specs.Difference.{diff, stands_as}
use Rattle.dv_change.specs.Inner.DiffLaws.{IsPartAt, at-all_go, at-went, comes-alike, goes-alike, positioned-filter, row_differs, went}
use Rattle.dv_change.specs.Inner.Ordered.{gone, put}
use Rattle.dv_change.specs.Inner.PositionLaws.{pos_order_total}
use Rattle.dv_change.specs.Positions.{IsExact, PosTree, pos_order}
use Rattle.dv_change.specs.Inner.RowLaws.{at-gone, at-put, at_back, positioned-gone, positioned-tail}
use Rattle.dv_change.specs.Inner.Told.{changes_told, diff_told, gone_told, is_kept, put_told, told_along, with_old}

-- the changes alone
pub changes-told : (rows : Positioned) (changes : List Change) → changes_told (told_along rows changes) ≡ changes
changes-told rows [] = refl
changes-told rows (Put p r ∷ changes) = ap (λ cs. Put p r ∷ cs) (changes-told (put p r rows) changes)
changes-told rows (Gone p ∷ changes) = ap (λ cs. Gone p ∷ cs) (changes-told (gone p rows) changes)

pub length-told : (rows : Positioned) (changes : List Change) → length (told_along rows changes) ≡ length changes
length-told rows [] = refl
length-told rows (change ∷ changes) = ap suc (length-told (with_change rows change) changes)

pub told-both : (rows : Positioned) (some others : List Change) → told_along rows (some ++ others) ≡ told_along rows some ++ told_along (with_changes rows some) others
told-both rows [] others = refl
told-both rows (change ∷ some) others = ap (λ ts. with_old rows change ∷ ts) (told-both (with_change rows change) some others)

-- ---- rows at their own positions

abbrev pub AreOwn : Positioned → Positioned → Type 0
AreOwn rows es = AllByRecursion (λ (e : PosTree × List Field). at e.0 rows ≡ Some e.1) es

apart : (p q : PosTree) → pos_order p q ≡ Less → is_eq (pos_order q p) ≡ false
apart p q h = sym (at_back p q) ∙ ap is_eq h

under : (e : PosTree × List Field) (es xs : Positioned) → AllByRecursion (λ q. pos_order e.0 q ≡ Less) (keys_of xs) → AreOwn es xs → AreOwn (e ∷ es) xs
under e es [] below all = tt
under e es (x ∷ xs) below all = (ap (λ b. cond b (Some e.1) (at x.0 es)) (apart e.0 x.0 below.0) ∙ all.0, under e es xs below.1 all.1)

pub all-own : (es : Positioned) → IsPositioned es → AreOwn es es
unfolding IsStrictlySortedBy
all-own [] are = tt
all-own (e ∷ es) are = (ap (λ r. cond (is_eq r) (Some e.1) (at e.0 es)) (tied_itself pos_order_total e.0), under e es es are.ascending.0 (all-own es (positioned-tail e es are)))

pub all-kept : (P : PosTree × List Field → Type 0) (f : PosTree × List Field → Bool) (es : Positioned) → AllByRecursion P es → AllByRecursion P (filter f es)
all-kept P f [] all = tt
all-kept P f (e ∷ es) all = by (f e) (all-kept P f es all.1)
  where
    by : (b : Bool) → AllByRecursion P (filter f es) → AllByRecursion P (cond b (e ∷ filter f es) (filter f es))
    by true rest = (all.0, rest)
    by false rest = rest

pub all-so : (P Q : PosTree × List Field → Type 0) → ((e : PosTree × List Field) → P e → Q e) → (es : Positioned) → AllByRecursion P es → AllByRecursion Q es
all-so P Q f [] all = tt
all-so P Q f (e ∷ es) all = (f e all.0, all-so P Q f es all.1)

-- ---- what is removed, and what is put

still-own : (p : PosTree) (rows es : Positioned) → IsPositioned rows → AllByRecursion (λ q. pos_order p q ≡ Less) (keys_of es) → AreOwn rows es → AreOwn (gone p rows) es
still-own p rows [] are below all = tt
still-own p rows (e ∷ es) are below all = (at-gone e.0 p rows are.ascending ∙ ap (λ r. cond (is_eq r) None (at e.0 rows)) below.0 ∙ all.0, still-own p rows es are below.1 all.1)

told-gones : (es rows : Positioned) → IsPositioned es → IsPositioned rows → AreOwn rows es → told_along rows (map (λ e. Gone e.0) es) ≡ map gone_told es
unfolding IsStrictlySortedBy
told-gones [] rows are r all = refl
told-gones (e ∷ es) rows are r all =
    let rest = told-gones es (gone e.0 rows) (positioned-tail e es are) (positioned-gone e.0 rows r) (still-own e.0 rows es r are.ascending.0 all.1) in
    λ i. record { pos = e.0; old = all.0 i; new = None } ∷ rest i

abbrev Stands : (PosTree → Option (List Field)) → Positioned → Positioned → Type 0
Stands g rows es = AllByRecursion (λ (e : PosTree × List Field). at e.0 rows ≡ g e.0) es

still-stands : (g : PosTree → Option (List Field)) (p : PosTree) (v : List Field) (rows es : Positioned) → AllByRecursion (λ q. pos_order p q ≡ Less) (keys_of es) → Stands g rows es → Stands g (put p v rows) es
still-stands g p v rows [] below all = tt
still-stands g p v rows (e ∷ es) below all = (at-put e.0 p v rows ∙ ap (λ b. cond b (Some v) (at e.0 rows)) (apart p e.0 below.0) ∙ all.0, still-stands g p v rows es below.1 all.1)

told-puts : (g : PosTree → Option (List Field)) (es rows : Positioned) → IsPositioned es → Stands g rows es → told_along rows (map (λ e. Put e.0 e.1) es) ≡ map (λ e. record { pos = e.0; old = g e.0; new = Some e.1 }) es
unfolding IsStrictlySortedBy
told-puts g [] rows are all = refl
told-puts g (e ∷ es) rows are all =
    let rest = told-puts g es (put e.0 e.1 rows) (positioned-tail e es are) (still-stands g e.0 e.1 rows es are.ascending.0 all.1) in
    λ i. record { pos = e.0; old = all.0 i; new = Some e.1 } ∷ rest i

none-of : (x : List Field) (a : Option (List Field)) → option_filter (λ v. is_none (Some x)) a ≡ None
none-of x None = refl
none-of x (Some v) = refl

-- what isn't removed is there as before
stays : (old new : Positioned) (q : PosTree) (x : List Field) → IsPositioned old → at q new ≡ Some x → at q (with_changes old (map (λ e. Gone e.0) (filter (went new) old))) ≡ at q old
stays old new q x o here =
    at-all_go q (filter (went new) old) old o
    ∙ ap (λ (a : Option (List Field)). cond (is_some a) None (at q old)) (at-went old new q o ∙ ap (λ (n : Option (List Field)). option_filter (λ v. is_none n) (at q old)) here ∙ none-of x (at q old))

-- the changes of a difference, one after the other, each with what was at its position
pub along-diff : (old new : Positioned) → IsPositioned old → IsPositioned new → told_along old (diff old new) ≡ diff_told old new
along-diff old new o n =
    let left = filter (went new) old in
    let came = filter (row_differs old) new in
    let goes = told-gones left old (positioned-filter (went new) old o) o (all-kept (λ e. at e.0 old ≡ Some e.1) (went new) old (all-own old o)) in
    let stand = all-so (λ e. at e.0 new ≡ Some e.1) (λ e. at e.0 (with_changes old (map (λ e. Gone e.0) left)) ≡ at e.0 old) (λ e here. stays old new e.0 e.1 o here) came (all-kept (λ e. at e.0 new ≡ Some e.1) (row_differs old) new (all-own new n)) in
    let comes = told-puts (λ q. at q old) came (with_changes old (map (λ e. Gone e.0) left)) (positioned-filter (row_differs old) new n) stand in
    told-both old (map (λ e. Gone e.0) left) (map (λ e. Put e.0 e.1) came) ∙ (λ i. goes i ++ comes i)

-- ---- lists that differ in parts of them

module _ (old new before after : Positioned) where
  part-old : (e : PosTree × List Field) → at e.0 after ≡ Some e.1 → IsPartAt old new before after e.0 → at e.0 old ≡ at e.0 before
  part-old e here (inl both) = sym both.0
  part-old e here (inr same) = let none = same.1 in absurd cc

  parts-old : ((q : PosTree) → IsExact q → IsPartAt old new before after q) → (es : Positioned) → AllByRecursion IsExact (keys_of es) → AreOwn after es → map (put_told old) es ≡ map (put_told before) es
  parts-old parts [] exact own = refl
  parts-old parts (e ∷ es) exact own =
      let stood = part-old e own.0 (parts e.0 exact.0) in
      let rest = parts-old parts es exact.1 own.1 in
      λ i. record { pos = e.0; old = stood i; new = Some e.1 } ∷ rest i

  -- the difference of lists, with what was at the positions, is that of their parts
  pub told-parts : IsPositioned old → IsPositioned new → IsPositioned before → IsPositioned after → ((q : PosTree) → IsExact q → IsPartAt old new before after q) → diff_told old new ≡ diff_told before after
  told-parts o n b a parts =
      let goes = goes-alike old new before after o b parts in
      let comes = comes-alike old new before after n a parts in
      let there = filter (row_differs before) after in
      (λ i. map gone_told (goes i) ++ map (put_told old) (comes i))
      ∙ ap (λ ts. map gone_told (filter (went after) before) ++ ts) (parts-old parts there (positioned-filter (row_differs before) after a).exact (all-kept (λ e. at e.0 after ≡ Some e.1) (row_differs before) after (all-own after a)))

-- ---- one position

puts-at : (rows : Positioned) (e : PosTree × List Field) (b : Bool) → map (put_told rows) (cond (not b) (e ∷ []) []) ≡ cond b [] (put_told rows e ∷ [])
puts-at rows e true = refl
puts-at rows e false = refl

-- if at most one row was at a position, and at most one is there now
told-at : (p : PosTree) (old new : Option (List Field)) → diff_told (alone p old) (alone p new) ≡ cond (is_kept old new) [] (record { pos = p; old = old; new = new } ∷ [])
told-at p None None = refl
told-at p (Some o) None = refl
told-at p None (Some n) = refl
told-at p (Some o) (Some n) =
    let self = ap is_eq (tied_itself pos_order_total p) in
    rw self (puts-at (alone p (Some o)) (p, n) (stands_as (Some o) n) ∙ ap (λ b. cond (stands_as (Some o) n) [] (record { pos = p; old = cond b (Some o) None; new = Some n } ∷ [])) self)

pub told-kept : (p : PosTree) (old new : Option (List Field)) → is_kept old new ≡ true → [] ≡ diff_told (alone p old) (alone p new)
told-kept p old new kept = sym (told-at p old new ∙ ap (λ b. cond b [] (record { pos = p; old = old; new = new } ∷ [])) kept)

pub told-changed : (p : PosTree) (old new : Option (List Field)) → is_kept old new ≡ false → record { pos = p; old = old; new = new } ∷ [] ≡ diff_told (alone p old) (alone p new)
told-changed p old new differs = sym (told-at p old new ∙ ap (λ b. cond b [] (record { pos = p; old = old; new = new } ∷ [])) differs)
