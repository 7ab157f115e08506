-- Rows of groups under the names of another document.
use Rattle.std.proofs.Common.{◌≡◌, ◌∙◌, ap, ap₂, sym, refl, false, ◌||◌, List, [], ◌∷◌, ◌++◌, ℕ, length, map, Some, arith, if◌then◌else◌, append-nil, append_assoc, codes}
use Rattle.std.proofs.lemmas.Slice.Eq.{bytes_eq-Decides}
use Rattle.std.specs.List.{AllByRecursion}
use Rattle.std.specs.Map.{keys_of}
use Rattle.std.specs.Str.{bytes_eq}
use Rattle.dv_value.specs.Tree.{Tree}
use Rattle.dv_value.specs.Names.{AreNamed, has_name, with_values}
use Rattle.dv_row.specs.Expressions.{with_field_behind}
use Rattle.dv_row.specs.Row.{Row}
use Rattle.dv_gather.specs.Grouping.{Accumulation}
use Rattle.dv_gather.specs.Inner.GroupStates.{row_names, row_of_values, with_named}

-- no field of the one has the name of a field of the other
abbrev AreApart : Row → Row → Type 0
AreApart front d = AllByRecursion (λ f. has_name f.0 front ≡ false) d

apart-none : (d : Row) → AreApart [] d
apart-none [] = tt
apart-none (f ∷ d) = (refl, apart-none d)

apart-behind : (other name : List ℕ) (v : Tree) (front : Row) → has_name other front ≡ false → bytes_eq name other ≡ false → has_name other (front ++ (name, v) ∷ []) ≡ false
apart-behind other name v [] fresh differ = grind (arith, (bytes_eq-Decides name other).1, (bytes_eq-Decides other name).0)
apart-behind other name v (f ∷ front) fresh differ = grind (arith, apart-behind other name v front)

apart-more : (name : List ℕ) (v : Tree) (front d : Row) → has_name name d ≡ false → AreApart front d → AreApart (front ++ (name, v) ∷ []) d
apart-more name v front [] fresh apart = tt
apart-more name v front (f ∷ d) fresh apart = grind (arith, apart-behind f.0 name v front apart.0, apart-more name v front d)

-- the fields that are left are put after those that are there, each under its own name
named-like : (fields : List Accumulation) (d front : Row) (vs : List Tree) → keys_of d ≡ map (λ a. a.name) fields → AreNamed d → AreApart front d → length d ≡ length vs → with_named fields vs front ≡ front ++ with_values d vs
named-like [] [] front [] same named apart all = sym (append-nil front)
named-like [] (f ∷ d) front vs same named apart all = absurd cc
named-like (a ∷ fields) [] front vs same named apart all = absurd cc
named-like [] [] front (v ∷ vs) same named apart all = absurd (omega (arith, all))
named-like (a ∷ fields) (f ∷ d) front [] same named apart all = absurd (omega (arith, all))
named-like (a ∷ fields) (f ∷ d) front (v ∷ vs) same named apart all =
    let here : f.0 ≡ a.name = cc in
    let rest : keys_of d ≡ map (λ a. a.name) fields = cc in
    let step : with_field_behind a.name (Some v) front ≡ front ++ (f.0, v) ∷ [] =
    ap (λ n. with_field_behind n (Some v) front) (sym here) ∙ ap₂ (λ z h. if z || h then front else front ++ (f.0, v) ∷ []) named.0 apart.0 in
    ap (with_named fields vs) step
    ∙ named-like fields d (front ++ (f.0, v) ∷ []) vs rest named.2 (apart-more f.0 v front d named.1 apart.1) (omega (arith, all))
    ∙ append_assoc front ((f.0, v) ∷ []) (with_values d vs)

pub row-like : (fields : List Accumulation) (d : Row) (vs : List Tree) → keys_of d ≡ row_names fields → AreNamed d → length d ≡ length vs → with_values d vs ≡ row_of_values fields vs
row-like fields [] vs same named all = absurd cc
row-like fields (f ∷ d) [] same named all = absurd (omega (arith, all))
row-like fields (f ∷ d) (k ∷ vs) same named all =
    let here : f.0 ≡ codes "_id" = cc in
    let rest : keys_of d ≡ map (λ a. a.name) fields = cc in
    sym (named-like fields d ((f.0, k) ∷ []) vs rest named.2 (apart-more f.0 k [] d named.1 (apart-none d)) (omega (arith, all)))
    ∙ ap (λ n. with_named fields vs ((n, k) ∷ [])) here
