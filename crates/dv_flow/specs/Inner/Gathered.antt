-- Rows computed from each row separately and put in the order of their positions: which row is at each position, if this says from
-- which row it was computed.
use Rattle.std.specs.Prelude.{◌≡◌, Bool, true, false, cond, List, [], ◌∷◌, ◌++◌, Option, None, Some, refl}
use Rattle.std.proofs.Common.{ap, sym, ◌∙◌}
use Rattle.std.specs.declared.cmp.Ordering.TheVariants.{Equal}
use Rattle.std.specs.Cmp.{Equal-is}
use Rattle.std.specs.Ordering.{is_eq}
use Rattle.std.specs.List.{AllByRecursion, flat_map}
use Rattle.std.specs.Map.{keys_of}
use Rattle.dv_value.specs.Tree.{Field}
use Rattle.dv_change.specs.Changes.{Positioned, at, in_row_order}
use Rattle.dv_change.specs.Inner.Changes.{IsPositioned, alone}
use Rattle.dv_change.specs.Inner.DiffLaws.{or_else}
use Rattle.dv_change.specs.Inner.PositionLaws.{pos_order_total}
use Rattle.dv_change.specs.Positions.{IsExact, PosTree, pos_order}
use Rattle.dv_change.specs.Inner.RowLaws.{all-put, at-put, past, pos_exact, positioned-none, positioned-put, positioned-tail}

at-both : (q : PosTree) (es fs : Positioned) → at q (es ++ fs) ≡ or_else (at q es) (at q fs)
at-both q [] fs = refl
at-both q (e ∷ es) fs = by (is_eq (pos_order q e.0)) (at-both q es fs)
  where
    by : (b : Bool) → at q (es ++ fs) ≡ or_else (at q es) (at q fs) → cond b (Some e.1) (at q (es ++ fs)) ≡ or_else (cond b (Some e.1) (at q es)) (at q fs)
    by true rest = refl
    by false rest = rest

pub at-in_order : (q : PosTree) (es : Positioned) → at q (in_row_order es) ≡ at q es
at-in_order q [] = refl
at-in_order q (e ∷ es) = at-put q e.0 e.1 (in_row_order es) ∙ ap (cond (is_eq (pos_order q e.0)) (Some e.1)) (at-in_order q es)

pub all-in_order : (P : PosTree → Type 0) (es : Positioned) → AllByRecursion P (keys_of es) → AllByRecursion P (keys_of (in_row_order es))
all-in_order P [] all = tt
all-in_order P (e ∷ es) all = all-put P e.0 e.1 (in_row_order es) (all-in_order P es all.1) all.0

pub positioned-in_order : (es : Positioned) → AllByRecursion IsExact (keys_of es) → IsPositioned (in_row_order es)
positioned-in_order [] all = positioned-none
positioned-in_order (e ∷ es) all = positioned-put e.0 e.1 (in_row_order es) (positioned-in_order es all.1) all.0

pub all-both : (P : PosTree → Type 0) (es fs : Positioned) → AllByRecursion P (keys_of es) → AllByRecursion P (keys_of fs) → AllByRecursion P (keys_of (es ++ fs))
all-both P [] fs some others = others
all-both P (e ∷ es) fs some others = (some.0, all-both P es fs some.1 others)

module _ (made : PosTree × List Field → Positioned) where
  pub all-made : (P Q : PosTree → Type 0) → ((e : PosTree × List Field) → P e.0 → AllByRecursion Q (keys_of (made e))) → (rows : Positioned) → AllByRecursion P (keys_of rows) → AllByRecursion Q (keys_of (flat_map made rows))
  all-made P Q each [] all = tt
  all-made P Q each (e ∷ rows) all = all-both Q (made e) (flat_map made rows) (each e all.0) (all-made P Q each rows all.1)

  pub positioned-gathered : ((e : PosTree × List Field) → IsExact e.0 → AllByRecursion IsExact (keys_of (made e))) → (rows : Positioned) → IsPositioned rows → IsPositioned (in_row_order (flat_map made rows))
  positioned-gathered each rows are = positioned-in_order (flat_map made rows) (all-made IsExact IsExact each rows are.exact)

  module _ (origin : PosTree → PosTree) (apart : (e : PosTree × List Field) (q : PosTree) → is_eq (pos_order (origin q) e.0) ≡ false → at q (made e) ≡ None) where
    nothing-else : (a : Option (List Field)) → or_else a None ≡ a
    nothing-else None = refl
    nothing-else (Some v) = refl

    at-made : (rows : Positioned) (q p : PosTree) → IsPositioned rows → IsExact p → pos_order (origin q) p ≡ Equal → at q (flat_map made rows) ≡ at q (flat_map made (alone p (at p rows)))
    at-made [] q p are x e = refl
    at-made (f ∷ rows) q p are x e = at-both q (made f) (flat_map made rows) ∙ by (is_eq (pos_order p f.0)) refl (at-made rows q p (positioned-tail f rows are) x e)
      where
        by : (b : Bool) → is_eq (pos_order p f.0) ≡ b → at q (flat_map made rows) ≡ at q (flat_map made (alone p (at p rows)))
            → or_else (at q (made f)) (at q (flat_map made rows)) ≡ at q (flat_map made (alone p (cond (is_eq (pos_order p f.0)) (Some f.1) (at p rows))))
        by true here rest =
            let same : p ≡ f.0 = pos_exact p f.0 x are.exact.0 ((Equal-is (pos_order p f.0)).0 here) in
            let none : at q (flat_map made rows) ≡ None = rest ∙ ap (λ a. at q (flat_map made (alone p a))) (past p f rows are here) in
            ap (or_else (at q (made f))) none
            ∙ ap (λ p. or_else (at q (made (p, f.1))) None) (sym same)
            ∙ sym (at-both q (made (p, f.1)) [])
            ∙ sym (ap (λ b. at q (flat_map made (alone p (cond b (Some f.1) (at p rows))))) here)
        by false here rest =
            let other : is_eq (pos_order (origin q) f.0) ≡ false = ap is_eq (pos_order_total.congr (origin q) p f.0 e) ∙ here in
            ap (λ a. or_else a (at q (flat_map made rows))) (apart f q other)
            ∙ rest
            ∙ sym (ap (λ b. at q (flat_map made (alone p (cond b (Some f.1) (at p rows))))) here)

    -- the row at a position is computed from one row alone
    pub single-gathered : (rows : Positioned) (q p : PosTree) → IsPositioned rows → IsExact q → IsExact p → pos_order (origin q) p ≡ Equal → at q (in_row_order (flat_map made rows)) ≡ at q (in_row_order (flat_map made (alone p (at p rows))))
    single-gathered rows q p are x y e = at-in_order q (flat_map made rows) ∙ at-made rows q p are y e ∙ sym (at-in_order q (flat_map made (alone p (at p rows))))
