-- A field that is found at its place.
use Rattle.std.proofs.Common.{◌≡◌, ℕ, zero, suc, Bool, true, false, ◌||◌, List, [], ◌∷◌, Some, if◌then◌else◌, refl, sym, ap, ◌∙◌}
use Rattle.std.specs.List.{slice_get}
use Rattle.std.specs.Str.{bytes_eq}
use Rattle.std.proofs.lemmas.Slice.Eq.{bytes_eq-Decides}
use Rattle.dv_value.specs.Names.{AreNamed, has_name, value_under}
use Rattle.dv_value.specs.Tree.{Field}

or_true : (b : Bool) → (b || true) ≡ true
or_true true = refl
or_true false = refl

-- a name at a place is among the names
there : (fs : List Field) (place : ℕ) (f : Field) (name : List ℕ) → slice_get fs place ≡ Some f → bytes_eq name f.0 ≡ true → has_name name fs ≡ true
there [] place f name at same = absurd cc
there (g ∷ fs) zero f name at same = let is : g ≡ f = cc in rw (is, same) refl
there (g ∷ fs) (suc place) f name at same = rw (there fs place f name at same) (or_true (bytes_eq name g.0))

pub near : (fs : List Field) (place : ℕ) (f : Field) (name : List ℕ) → AreNamed fs → slice_get fs place ≡ Some f → bytes_eq name f.0 ≡ true → value_under name fs ≡ Some f.1
near [] place f name named at same = absurd cc
near (g ∷ fs) zero f name named at same = let is : g ≡ f = cc in rw (is, same) refl
near (g ∷ fs) (suc place) f name named at same = by_test (bytes_eq name g.0) refl (near fs place f name named.2 at same)
  where
    by_test : (b : Bool) → bytes_eq name g.0 ≡ b → value_under name fs ≡ Some f.1 → (if b then Some g.1 else value_under name fs) ≡ Some f.1
    by_test false e behind = behind
    by_test true e behind =
        let is : has_name g.0 fs ≡ true = ap (λ (n : List ℕ). has_name n fs) (sym ((bytes_eq-Decides name g.0).0 e)) ∙ there fs place f name at same in
        let both : true ≡ false = sym is ∙ named.1 in
        absurd cc
