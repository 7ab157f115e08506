-- Fields under the names of others.
use Rattle.std.proofs.Common.{◌≡◌, ℕ, zero, suc, ◌||◌, Bool, true, false, List, [], ◌∷◌, ◌++◌, length, map, Some, refl, sym, ap, subst, ◌∙◌}
use Rattle.std.specs.List.{slice_get}
use Rattle.std.specs.Str.{bytes_eq}
use Rattle.std.proofs.lemmas.List.{length-map, map-append}
use Rattle.std.proofs.lemmas.Slice.Eq.{bytes_eq-Decides}
use Rattle.dv_value.specs.Tree.{Tree, Field}
use Rattle.dv_value.specs.Names.{AreNamed, has_name, has_zero, with_values}
use Rattle.dv_value.specs.View.{tree}
use Rattle.dv_value.specs.declared.value.Value.{Value}
use Rattle.dv_bson.proofs.Elements.{MayBeAdded}

some_is : (f g : Field) → Some f ≡ Some g → f ≡ g
some_is f g e = cc

named_somewhere : (fs : List Field) (k : ℕ) (f : Field) → slice_get fs k ≡ Some f → has_name f.0 fs ≡ true
named_somewhere [] k f e = absurd cc
named_somewhere (g ∷ fs) zero f e =
    let same : bytes_eq f.0 g.0 ≡ true = (bytes_eq-Decides f.0 g.0).1 (ap (λ (h : Field). h.0) (sym (some_is g f e))) in
    rw same refl
named_somewhere (g ∷ fs) (suc k) f e =
    let behind : has_name f.0 fs ≡ true = named_somewhere fs k f e in
    elim (bytes_eq f.0 g.0) as (λ b. (b || has_name f.0 fs) ≡ true) [ true ↦ refl | false ↦ behind ]

other_name : (g : Field) (fs : List Field) (k : ℕ) (f : Field) (b : Bool) → bytes_eq f.0 g.0 ≡ b → has_name g.0 fs ≡ false → slice_get fs k ≡ Some f → b ≡ false
other_name g fs k f false e apart there = refl
other_name g fs k f true e apart there =
    let same : f.0 ≡ g.0 = (bytes_eq-Decides f.0 g.0).0 e in
    let found : has_name g.0 fs ≡ true = subst (λ (n : List ℕ). has_name n fs ≡ true) same (named_somewhere fs k f there) in
    absurd cc

-- the name that is next may be added
pub next_may_be_added : (fs : List Field) (vs : List Tree) (f : Field) → AreNamed fs → slice_get fs (length vs) ≡ Some f → MayBeAdded (with_values fs vs) f.0
next_may_be_added [] vs f named e = absurd cc
next_may_be_added (g ∷ fs) [] f named e = record {
  whole = subst (λ (h : Field). has_zero h.0 ≡ false) (some_is g f e) named.0;
  fresh = refl;
}
next_may_be_added (g ∷ fs) (v ∷ vs) f named e =
    let behind = next_may_be_added fs vs f named.2 e in
    let other : bytes_eq f.0 g.0 ≡ false = other_name g fs (length vs) f (bytes_eq f.0 g.0) refl named.1 e in
    record { whole = behind.whole; fresh = rw other behind.fresh }

pub with_values-push : (fs : List Field) (vs : List Tree) (f : Field) (v : Tree) → slice_get fs (length vs) ≡ Some f → with_values fs (vs ++ v ∷ []) ≡ with_values fs vs ++ (f.0, v) ∷ []
with_values-push [] vs f v e = absurd cc
with_values-push (g ∷ fs) [] f v e = ap (λ (h : Field). (h.0, v) ∷ []) (some_is g f e)
with_values-push (g ∷ fs) (w ∷ vs) f v e = ap (λ (gs : List Field). (g.0, w) ∷ gs) (with_values-push fs vs f v e)

-- the same for values in memory
pub next_field : (fs : List Field) (values : List Value) (f : Field) → AreNamed fs → slice_get fs (length values) ≡ Some f → MayBeAdded (with_values fs (map tree values)) f.0
next_field fs values f named there = next_may_be_added fs (map tree values) f named (ap (slice_get fs) (length-map values tree) ∙ there)

pub values_grown : (fs : List Field) (values : List Value) (f : Field) (v : Value) → slice_get fs (length values) ≡ Some f → with_values fs (map tree (values ++ v ∷ [])) ≡ with_values fs (map tree values) ++ (f.0, tree v) ∷ []
values_grown fs values f v there =
    ap (with_values fs) (map-append tree values (v ∷ [])) ∙ with_values-push fs (map tree values) f (tree v) (ap (slice_get fs) (length-map values tree) ∙ there)
