-- The rows of each row's elements, by positions.
use Rattle.std.specs.Prelude.{◌≡◌, ℕ, suc, Bool, true, false, List, [], ◌∷◌, ◌++◌, length, None, refl, slice_index_or, if◌then◌else◌}
use Rattle.std.proofs.Common.{ap, append-nil, sym, ◌∙◌}
use Rattle.std.specs.declared.cmp.Ordering.TheVariants.{Equal}
use Rattle.std.specs.Cmp.{Equal-is}
use Rattle.std.specs.Ordering.{is_eq}
use Rattle.std.specs.List.{AllByRecursion, flat_map}
use Rattle.std.specs.Map.{keys_of}
use Rattle.dv_value.specs.Tree.{Field}
use Rattle.dv_row.specs.declared.unwind.Unwind.{Unwind}
use Rattle.dv_row.specs.Unwinding.{unwound}
use Rattle.dv_change.specs.declared.position.Part.TheVariants.{At}
use Rattle.dv_change.specs.Changes.{Positioned, at, in_row_order}
use Rattle.dv_change.specs.Inner.Changes.{HaveOneLength, IsPositioned, alone}
use Rattle.dv_change.specs.Positions.{IsExact, PosTree, part_order, pos_order}
use Rattle.dv_flow.specs.Inner.Gathered.{all-in_order, all-made, positioned-gathered, single-gathered}
use Rattle.dv_flow.specs.Placed.{rows_numbered, unwound_at}
use Rattle.dv_order.specs.Inner.SameOrder.{both_Equal}

-- a position without its last part
abbrev pub but_last : PosTree → PosTree
but_last [] = []
but_last (a ∷ []) = []
but_last (a ∷ b ∷ p) = a ∷ but_last (b ∷ p)

abbrev rows_of : Unwind → PosTree × List Field → Positioned
rows_of u e = rows_numbered 0 e.0 (unwound u e.1)

-- rows at positions that continue `pos` by numbers, counted from i, except those whose numbers are marked
abbrev pub rows_unmarked : List Bool → ℕ → PosTree → List (List Field) → Positioned
rows_unmarked marked i pos [] = []
rows_unmarked marked i pos (d ∷ ds) = if slice_index_or marked i false then rows_unmarked marked (suc i) pos ds else (pos ++ At i ∷ [], d) ∷ rows_unmarked marked (suc i) pos ds

pub behind-exact : (p : PosTree) (i : ℕ) → IsExact p → IsExact (p ++ At i ∷ [])
behind-exact [] i x = (tt, tt)
behind-exact (a ∷ p) i x = (x.0, behind-exact p i x.1)

behind-length : (p : PosTree) (i : ℕ) → length (p ++ At i ∷ []) ≡ suc (length p)
behind-length [] i = refl
behind-length (a ∷ p) i = ap suc (behind-length p i)

pub numbered-exact : (i : ℕ) (p : PosTree) (ds : List (List Field)) → IsExact p → AllByRecursion IsExact (keys_of (rows_numbered i p ds))
numbered-exact i p [] x = tt
numbered-exact i p (d ∷ ds) x = (behind-exact p i x, numbered-exact (suc i) p ds x)

numbered-length : (n i : ℕ) (p : PosTree) (ds : List (List Field)) → length p ≡ n → AllByRecursion (λ q. length q ≡ suc n) (keys_of (rows_numbered i p ds))
numbered-length n i p [] e = tt
numbered-length n i p (d ∷ ds) e = (behind-length p i ∙ ap suc e, numbered-length n (suc i) p ds e)

-- a position that is p followed by a number has the origin p
behind-of : (q p : PosTree) (i : ℕ) → pos_order q (p ++ At i ∷ []) ≡ Equal → pos_order (but_last q) p ≡ Equal
behind-of [] [] i e = cc
behind-of [] (b ∷ p) i e = cc
behind-of (a ∷ []) [] i e = refl
behind-of (a ∷ c ∷ q) [] i e = let both = both_Equal (part_order a (At i)) (pos_order (c ∷ q) []) e in absurd cc
behind-of (a ∷ []) (b ∷ []) i e = let both = both_Equal (part_order a b) (pos_order [] (At i ∷ [])) e in absurd cc
behind-of (a ∷ []) (b ∷ c ∷ p) i e = let both = both_Equal (part_order a b) (pos_order [] (c ∷ p ++ At i ∷ [])) e in absurd cc
behind-of (a ∷ c ∷ q) (b ∷ p) i e =
    let both = both_Equal (part_order a b) (pos_order (c ∷ q) (p ++ At i ∷ [])) e in
    let rest = behind-of (c ∷ q) p i both.1 in
    rw both.0 rest

numbered-apart : (q p : PosTree) (i : ℕ) (ds : List (List Field)) → is_eq (pos_order (but_last q) p) ≡ false → at q (rows_numbered i p ds) ≡ None
numbered-apart q p i [] other = refl
numbered-apart q p i (d ∷ ds) other = by (is_eq (pos_order q (p ++ At i ∷ []))) refl (numbered-apart q p (suc i) ds other)
  where
    by : (b : Bool) → is_eq (pos_order q (p ++ At i ∷ [])) ≡ b → at q (rows_numbered (suc i) p ds) ≡ None → at q (rows_numbered i p (d ∷ ds)) ≡ None
    by true here rest = let there = behind-of q p i ((Equal-is (pos_order q (p ++ At i ∷ []))).0 here) in cc
    by false here rest = rw here rest

pub unwind_exact : (u : Unwind) (q : PosTree) → IsExact q → IsExact (but_last q)
unwind_exact u [] x = tt
unwind_exact u (a ∷ []) x = tt
unwind_exact u (a ∷ b ∷ q) x = (x.0, unwind_exact u (b ∷ q) x.1)

pub unwind_empty : (u : Unwind) → unwound_at u [] ≡ []
unfolding unwound_at
unwind_empty u = refl

pub unwind_ordered : (u : Unwind) (rows : Positioned) → IsPositioned rows → IsPositioned (unwound_at u rows)
unfolding unwound_at
unwind_ordered u rows are = positioned-gathered (rows_of u) (λ e x. numbered-exact 0 e.0 (unwound u e.1) x) rows are

pub unwind_even : (u : Unwind) (rows : Positioned) → IsPositioned rows → HaveOneLength rows → HaveOneLength (unwound_at u rows)
unfolding unwound_at
unwind_even u rows are one =
    (suc one.0, all-in_order (λ q. length q ≡ suc one.0) (flat_map (rows_of u) rows) (all-made (rows_of u) (λ p. length p ≡ one.0) (λ q. length q ≡ suc one.0) (λ e n. numbered-length one.0 0 e.0 (unwound u e.1) n) rows one.1))

pub unwind_single : (u : Unwind) (rows : Positioned) (q p : PosTree) → IsPositioned rows → IsExact q → IsExact p → pos_order (but_last q) p ≡ Equal → at q (unwound_at u rows) ≡ at q (unwound_at u (alone p (at p rows)))
unfolding unwound_at
unwind_single u rows q p are x y e = single-gathered (rows_of u) but_last (λ f r other. numbered-apart r f.0 0 (unwound u f.1) other) rows q p are x y e

-- the rows of one row
pub unwound_alone : (u : Unwind) (p : PosTree) (d : List Field) (ds : List (List Field)) → ds ≡ unwound u d → in_row_order (rows_numbered 0 p ds) ≡ unwound_at u ((p, d) ∷ [])
unfolding unwound_at
unwound_alone u p d ds e = ap (λ ds. in_row_order (rows_numbered 0 p ds)) e ∙ ap in_row_order (sym (append-nil (rows_numbered 0 p (unwound u d))))
