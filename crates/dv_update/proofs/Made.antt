-- What edits leave unchanged, and elements that are removed.
use Rattle.std.proofs.Common.{◌≡◌, ◌∙◌, ap, sym, refl, List, [], ◌∷◌, ◌++◌, ℕ, zero, suc, ◌<◌, ◌≤◌, length, map, drop, get_or, Bool, true, false, ◌||◌, Ok, arith, drop_of_length-le, append-nil}
use Rattle.std.specs.List.{list_any}
use Rattle.dv_value.specs.Tree.{Tree, Field, elements_of, array}
use Rattle.dv_value.specs.View.{tree}
use Rattle.dv_value.specs.declared.value.Value.{Value}
use Rattle.dv_path.specs.Slots.{slot, taken}
use Rattle.dv_update.specs.Apply.{Path, told, set_at, is_pulled, left}
use Rattle.dv_order.specs.Same.{is_same}
use Rattle.dv_update.specs.Update.{Pulled}
use Rattle.dv_update.proofs.PutThere.{put-again}
use Rattle.dv_order.specs.Inner.SameLaws.{same-is}

-- to set what is there changes nothing
pub set_there : (d : List Field) (path : Path) (w v : Tree) → taken w ≡ slot d path → true ≡ is_same w v → set_at path v d ≡ Ok d
set_there d path w v here same =
    let is : w ≡ v = same-is w v (sym same) in
    ap told (put-again d path v (sym here ∙ ap taken is))

or-true : (a : Bool) → a || true ≡ true
or-true true = refl
or-true false = refl

pub any_at : {X Y : Type 0} (seen : X → Y) (p : Y → Bool) (xs : List X) (i : ℕ) (x : X) → i < length xs → x ≡ get_or xs i x → p (seen x) ≡ true → list_any p (map seen xs) ≡ true
any_at seen p [] i x within is h = absurd (omega arith)
any_at seen p (y ∷ ys) zero x within is h = ap (λ b. b || list_any p (map seen ys)) (ap (λ z. p (seen z)) (sym is) ∙ h)
any_at seen p (y ∷ ys) (suc i) x within is h = ap (λ b. p (seen y) || b) (any_at seen p ys i x (omega arith) is h) ∙ or-true (p (seen y))

pub any_here : (p : Tree → Bool) (values : List Value) (vs : List Tree) → map tree values ≡ vs → (i : ℕ) (value : Value) → i < length values → value ≡ get_or values i value → true ≡ p (tree value) → list_any p vs ≡ true
any_here p values vs seen i value within is h = ap (list_any p) (sym seen) ∙ any_at tree p values i value within is (sym h)

pub left_end : (p : Pulled) (values : List Value) (vs done : List Tree) (i : ℕ) → map tree values ≡ vs → left p (map tree values) ≡ done ++ left p (map tree (drop i values)) → length values ≤ i → done ≡ left p vs
left_end p values vs done i seen so-far past =
    sym (ap (left p) (sym seen) ∙ so-far ∙ ap (λ l. done ++ left p (map tree l)) (drop_of_length-le values past) ∙ append-nil done)

none-kept : (p : Pulled) (vs : List Tree) → list_any (is_pulled p) vs ≡ false → left p vs ≡ vs
none-kept p [] e = refl
none-kept p (v ∷ vs) e = by (is_pulled p v) refl e (none-kept p vs)
  where
    by : (b : Bool) → is_pulled p v ≡ b → (b || list_any (is_pulled p) vs) ≡ false → (list_any (is_pulled p) vs ≡ false → left p vs ≡ vs) → left p (v ∷ vs) ≡ v ∷ vs
    by true h f rest = cc
    by false h f rest = grind (arith, h, rest f)

-- to remove no element changes nothing
pub pull_none : (d : List Field) (path : Path) (p : Pulled) (vs : List Tree) → taken (array (elements_of vs)) ≡ slot d path → false ≡ list_any (is_pulled p) vs → set_at path (array (elements_of (left p vs))) d ≡ Ok d
pull_none d path p vs here none =
    let same : left p vs ≡ vs = none-kept p vs (sym none) in
    ap told (put-again d path (array (elements_of (left p vs))) (sym here ∙ ap (λ ws. taken (array (elements_of ws))) (sym same)))
