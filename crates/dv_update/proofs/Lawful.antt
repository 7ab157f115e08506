-- What holds of updates.
use Rattle.std.proofs.Common.{◌≡◌, ◌∙◌, ◌↔◌, ap, ap₂, sym, refl, List, [], ◌∷◌, ◌++◌, ℕ, ◌≤◌, ◌<◌, Bool, true, false, ◌||◌, not, cond, nat_lt, length, Some, None, Result, Ok, Err, codes, arith, if◌then◌else◌}
use Rattle.std.specs.Cmp.{tied_itself}
use Rattle.std.specs.Ordering.{is_gt, ordering_reverse}
use Rattle.std.specs.declared.cmp.Ordering.{Ordering}
use Rattle.std.specs.declared.cmp.Ordering.TheVariants.{Less, Equal, Greater}
use Rattle.std.proofs.lemmas.Bool.Decides.{nat_tests}
use Rattle.std.proofs.lemmas.Slice.Eq.{bytes_eq-Decides}
use Rattle.dv_value.specs.Spelling.{Fits, spelling, levels}
use Rattle.dv_value.specs.Tree.{Tree, Field, fields_of, document}
use Rattle.dv_path.specs.Slots.{slot, taken}
use Rattle.dv_update.specs.Apply.{Path, told, set_at, is_id, leading_id, checked, changed, applied, document_limit, level_limit}
use Rattle.dv_update.specs.Parsing.{conflicts, has_conflict, placed, sorted, in_order}
use Rattle.dv_value.specs.Results.{◌>>=◌}
use Rattle.dv_update.specs.PathOrder.{path_order, begins}
use Rattle.dv_update.specs.Inner.PathOrderLaws.{path_order_total}
use Rattle.dv_order.specs.Same.{both_same}
use Rattle.dv_update.specs.Update.{Edit, Update, operators}
use Rattle.dv_update.specs.declared.fault.UpdateFault.{UpdateFault}
use Rattle.dv_update.specs.declared.fault.UpdateFault.TheVariants.{Conflict, IdChanged, TooLarge, TooDeep}
use Rattle.dv_update.proofs.Paths.{path-exact, begins-itself}
use Rattle.dv_update.proofs.Placed.{Alike-swap, Alike-behind}
use Rattle.dv_update.proofs.PutThere.{put-again}
use Rattle.dv_order.specs.Inner.SameLaws.{same-is}

-- ---- the order of paths

pub back : (p q : Path) → path_order p q ≡ ordering_reverse (path_order q p)
back p q = path_order_total.antisymm p q

pub through : (p q r : Path) → path_order p q ≡ Less → path_order q r ≡ Less → path_order p r ≡ Less
through p q r l m = path_order_total.trans p q r l m

pub beside : (p q : Path) → (path_order p q ≡ Equal) ↔ (p ≡ q)
beside p q = (path-exact p q, λ same. ap (path_order p) (sym same) ∙ tied_itself path_order_total p)

-- ---- edits that trade places

greater : (o : Ordering) → is_gt o ≡ true → o ≡ Greater
greater Less h = cc
greater Equal h = cc
greater Greater h = refl

-- what comes after a path comes after those before it
behind-both : (d e x : Path) → path_order d e ≡ Less → is_gt (path_order d x) ≡ true → is_gt (path_order e x) ≡ true
behind-both d e x l h =
    let less : path_order x d ≡ Less = back x d ∙ ap ordering_reverse (greater (path_order d x) h) in
    ap is_gt (back e x ∙ ap ordering_reverse (through x d e less l))

module _ (d e : Edit) (less : path_order d.0 e.0 ≡ Less) where
  not-behind : is_gt (path_order d.0 e.0) ≡ false
  not-behind = ap is_gt less

  is-behind : is_gt (path_order e.0 d.0) ≡ true
  is-behind = ap is_gt (back e.0 d.0 ∙ ap ordering_reverse less)

  in-front : (ds : List Edit) → placed d (e ∷ ds) ≡ d ∷ e ∷ ds
  in-front ds = ap (λ b. cond b (e ∷ placed d ds) (d ∷ e ∷ ds)) not-behind

  at-back : (ds : List Edit) → placed e (d ∷ ds) ≡ d ∷ placed e ds
  at-back ds = ap (λ b. cond b (d ∷ placed e ds) (e ∷ d ∷ ds)) is-behind

  placed-swap : (ds : List Edit) → placed d (placed e ds) ≡ placed e (placed d ds)
  placed-swap [] = in-front [] ∙ sym (at-back [])
  placed-swap (x ∷ ds) = by (is_gt (path_order d.0 x.0)) (is_gt (path_order e.0 x.0)) refl refl (placed-swap ds)
    where
      over : (f : Edit) (b : Bool) (fs : List Edit) → is_gt (path_order f.0 x.0) ≡ b → placed f (x ∷ fs) ≡ cond b (x ∷ placed f fs) (f ∷ x ∷ fs)
      over f b fs h = ap (λ b. cond b (x ∷ placed f fs) (f ∷ x ∷ fs)) h

      by : (g h : Bool) → is_gt (path_order d.0 x.0) ≡ g → is_gt (path_order e.0 x.0) ≡ h → placed d (placed e ds) ≡ placed e (placed d ds) → placed d (placed e (x ∷ ds)) ≡ placed e (placed d (x ∷ ds))
      by true true p q rest =
          ap (placed d) (over e true ds q) ∙ over d true (placed e ds) p ∙ ap (λ fs. x ∷ fs) rest ∙ sym (over e true (placed d ds) q) ∙ ap (placed e) (sym (over d true ds p))
      by true false p q rest = let both : is_gt (path_order e.0 x.0) ≡ true = behind-both d.0 e.0 x.0 less p in cc
      by false true p q rest =
          ap (placed d) (over e true ds q) ∙ over d false (placed e ds) p ∙ ap (λ fs. d ∷ fs) (sym (over e true ds q)) ∙ sym (at-back (x ∷ ds)) ∙ ap (placed e) (sym (over d false ds p))
      by false false p q rest =
          ap (placed d) (over e false ds q) ∙ in-front (x ∷ ds) ∙ ap (λ fs. d ∷ fs) (sym (over e false ds q)) ∙ sym (at-back (x ∷ ds)) ∙ ap (placed e) (sym (over d false ds p))

not-conflict : (a b : Bool) → (a || b) ≡ false → a ≡ true → ⊥
not-conflict true b h e = cc
not-conflict false b h e = cc

apart : (d e : Edit) → conflicts d e ≡ false → path_order d.0 e.0 ≡ Equal → ⊥
apart d e none tie = not-conflict (begins d.0 e.0) (begins e.0 d.0) none (ap (begins d.0) (sym (path-exact d.0 e.0 tie)) ∙ begins-itself d.0)

swapped : (o : Ordering) (d e : Edit) → path_order d.0 e.0 ≡ o → conflicts d e ≡ false → (ds : List Edit) → placed d (placed e ds) ≡ placed e (placed d ds)
swapped Less d e is none ds = placed-swap d e is ds
swapped Equal d e is none ds = absurd (apart d e none is)
swapped Greater d e is none ds = sym (placed-swap e d (back e.0 d.0 ∙ ap ordering_reverse is) ds)

sorted-traded : (before after : List Edit) (d e : Edit) → conflicts d e ≡ false → sorted (before ++ d ∷ e ∷ after) ≡ sorted (before ++ e ∷ d ∷ after)
sorted-traded [] after d e none = swapped (path_order d.0 e.0) d e refl none (sorted after)
sorted-traded (b ∷ before) after d e none = ap (placed b) (sorted-traded before after d e none)

pub traded : (before after : List Edit) (d e : Edit) → conflicts d e ≡ false → in_order (before ++ d ∷ e ∷ after) ≡ in_order (before ++ e ∷ d ∷ after)
traded before after d e none =
    let conflict = (Alike-behind before (d ∷ e ∷ after) (e ∷ d ∷ after) (Alike-swap e d after)).conflict in
    ap (λ b. if b then Err Conflict else Ok (operators (sorted (before ++ d ∷ e ∷ after)))) conflict
    ∙ ap (λ es. if has_conflict (before ++ e ∷ d ∷ after) then Err Conflict else Ok (operators es)) (sorted-traded before after d e none)

-- ---- what is set again

pub set_again : (path : Path) (v : Tree) (d : List Field) → slot d path ≡ taken v → set_at path v d ≡ Ok d
set_again path v d here = ap told (put-again d path v here)

-- ---- the result

pub record IsChecked (old new : List Field) : Type 0 where
  pub id : both_same (leading_id old) (leading_id new) ≡ true
  pub size : nat_lt document_limit (length (spelling new)) ≡ false
  pub depth : nat_lt level_limit (levels (document (fields_of new))) ≡ false

checked-by : (a b c : Bool) (new after : List Field) → (if not a then Err IdChanged else if b then Err TooLarge else if c then Err TooDeep else Ok new) ≡ (let r : Result (List Field) UpdateFault = Ok after in r) → (a ≡ true) × (b ≡ false) × (c ≡ false) × (new ≡ after)
checked-by true false false new after e = (refl, refl, refl, cc)
checked-by true false true new after e = cc
checked-by true true c new after e = cc
checked-by false b c new after e = cc

is-checked : (old new after : List Field) → checked old new ≡ Ok after → IsChecked old after
is-checked old new after e =
    let by = checked-by (both_same (leading_id old) (leading_id new)) (nat_lt document_limit (length (spelling new))) (nat_lt level_limit (levels (document (fields_of new)))) new after e in
    let same : new ≡ after = by.3 in
    record {
      id = ap (λ d. both_same (leading_id old) (leading_id d)) (sym same) ∙ by.0;
      size = ap (λ d. nat_lt document_limit (length (spelling d))) (sym same) ∙ by.1;
      depth = ap (λ d. nat_lt level_limit (levels (document (fields_of d)))) (sym same) ∙ by.2;
    }

behind-change : (r : Result (List Field) UpdateFault) (d after : List Field) → (r >>= checked d) ≡ Ok after → IsChecked d after
behind-change (Ok new) d after e = is-checked d new after e
behind-change (Err f) d after e = cc

pub fitting : (update : Update) (d after : List Field) → applied update d ≡ Ok after → Fits after
fitting update d after e =
    let is = behind-change (changed update d) d after e in
    let size : length (spelling after) ≤ 16777216 = grind (arith, nat_tests, is.size) in
    let depth : levels (document (fields_of after)) ≤ 100 = grind (arith, nat_tests, is.depth) in
    record { size = size; depth = depth }

-- the verdict on a result, by whether it keeps its `_id`, is too large and is too deep
abbrev verdict : Bool → Bool → Bool → List Field → Result (List Field) UpdateFault
verdict same large deep new = if not same then Err IdChanged else if large then Err TooLarge else if deep then Err TooDeep else Ok new

none-told : (same large deep : Bool) (new : List Field) → same ≡ true → large ≡ false → deep ≡ false → verdict same large deep new ≡ Ok new
none-told true false false new e f g = refl
none-told true false true new e f g = cc
none-told true true deep new e f g = cc
none-told false large deep new e f g = cc

id-told : (same large deep : Bool) (new : List Field) → same ≡ false → verdict same large deep new ≡ Err IdChanged
id-told true large deep new e = cc
id-told false large deep new e = refl

size-told : (same large deep : Bool) (new : List Field) → same ≡ true → large ≡ true → verdict same large deep new ≡ Err TooLarge
size-told true true deep new e f = refl
size-told true false deep new e f = cc
size-told false large deep new e f = cc

depth-told : (same large deep : Bool) (new : List Field) → same ≡ true → large ≡ false → deep ≡ true → verdict same large deep new ≡ Err TooDeep
depth-told true false true new e f g = refl
depth-told true false false new e f g = cc
depth-told true true deep new e f g = cc
depth-told false large deep new e f g = cc

pub kept : (update : Update) (d after : List Field) → changed update d ≡ Ok after → both_same (leading_id d) (leading_id after) ≡ true → Fits after → applied update d ≡ Ok after
kept update d after e same fits =
    let size : nat_lt document_limit (length (spelling after)) ≡ false = grind (arith, nat_tests, fits.size) in
    let depth : nat_lt level_limit (levels (document (fields_of after))) ≡ false = grind (arith, nat_tests, fits.depth) in
    ap (λ r. r >>= checked d) e ∙ none-told (both_same (leading_id d) (leading_id after)) (nat_lt document_limit (length (spelling after))) (nat_lt level_limit (levels (document (fields_of after)))) after same size depth

pub changed_first : (update : Update) (d after : List Field) → changed update d ≡ Ok after → both_same (leading_id d) (leading_id after) ≡ false → applied update d ≡ Err IdChanged
changed_first update d after e other = ap (λ r. r >>= checked d) e ∙ id-told (both_same (leading_id d) (leading_id after)) (nat_lt document_limit (length (spelling after))) (nat_lt level_limit (levels (document (fields_of after)))) after other

pub size_next : (update : Update) (d after : List Field) → changed update d ≡ Ok after → both_same (leading_id d) (leading_id after) ≡ true → 16777216 < length (spelling after) → applied update d ≡ Err TooLarge
size_next update d after e same above =
    let large : nat_lt document_limit (length (spelling after)) ≡ true = grind (arith, nat_tests, above) in
    ap (λ r. r >>= checked d) e ∙ size-told (both_same (leading_id d) (leading_id after)) (nat_lt document_limit (length (spelling after))) (nat_lt level_limit (levels (document (fields_of after)))) after same large

pub depth_last : (update : Update) (d after : List Field) → changed update d ≡ Ok after → both_same (leading_id d) (leading_id after) ≡ true → length (spelling after) ≤ 16777216 → 100 < levels (document (fields_of after)) → applied update d ≡ Err TooDeep
depth_last update d after e same within above =
    let size : nat_lt document_limit (length (spelling after)) ≡ false = grind (arith, nat_tests, within) in
    let deep : nat_lt level_limit (levels (document (fields_of after))) ≡ true = grind (arith, nat_tests, above) in
    ap (λ r. r >>= checked d) e ∙ depth-told (both_same (leading_id d) (leading_id after)) (nat_lt document_limit (length (spelling after))) (nat_lt level_limit (levels (document (fields_of after)))) after same size deep

begins-with : (v : Tree) (after : List Field) → both_same (Some v) (leading_id after) ≡ true → (rest : List Field) × (after ≡ (codes "_id", v) ∷ rest)
begins-with v [] e = cc
begins-with v (f ∷ fs) e = by (is_id f) refl e
  where
    by : (b : Bool) → is_id f ≡ b → both_same (Some v) (if b then Some f.1 else None) ≡ true → (rest : List Field) × (f ∷ fs ≡ (codes "_id", v) ∷ rest)
    by true h same =
        let name : f.0 ≡ codes "_id" = (bytes_eq-Decides f.0 (codes "_id")).0 h in
        let value : v ≡ f.1 = same-is v f.1 same in
        (fs, ap₂ (λ (n : List ℕ) (w : Tree). let g : Field = (n, w) in g ∷ fs) name (sym value))
    by false h same = cc

pub id_stays : (update : Update) (v : Tree) (others after : List Field) → applied update ((codes "_id", v) ∷ others) ≡ Ok after → (rest : List Field) × (after ≡ (codes "_id", v) ∷ rest)
id_stays update v others after e = begins-with v after (behind-change (changed update ((codes "_id", v) ∷ others)) ((codes "_id", v) ∷ others) after e).id
