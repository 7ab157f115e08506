-- Lists of values that are valid, and numbers that fit into 32 and 64 bits.
use Rattle.std.proofs.Common.{◌≡◌, ℤ, pos, negsuc, Bool, true, false, List, [], ◌∷◌, arith, if◌then◌else◌}
use Rattle.std.proofs.lemmas.Bool.Decides.{nat_tests}
use Rattle.std.specs.Int.{w32, w64}
use Rattle.std.specs.List.{AllByRecursion}
use Rattle.std.specs.Prelude.{FitsSigned}
use Rattle.dv_value.specs.Spelling.{IsValue, AreElements}
use Rattle.dv_value.specs.Tree.{Tree, Elements, no_elements, element, elements_of, list_of_elements}
use Rattle.dv_value.specs.Widths.{fits_32, fits_64}

abbrev pub AreValues : List Tree → Type 0
AreValues vs = AllByRecursion IsValue vs

pub listed-elements : (vs : Elements) → AreElements vs → AreValues (list_of_elements vs)
listed-elements no_elements valid = tt
listed-elements (element v vs) valid = (valid.0, listed-elements vs valid.1)

pub valid-elements : (vs : List Tree) → AreValues vs → AreElements (elements_of vs)
valid-elements [] valid = tt
valid-elements (v ∷ vs) valid = (valid.0, valid-elements vs valid.1)

-- what holds of both holds of either
pub either : {X : Type 0} (P : X → Type 0) (b : Bool) (x y : X) → P x → P y → P (if b then x else y)
either P true x y first second = first
either P false x y first second = second

pub fits-32 : (n : ℤ) → fits_32 n ≡ true → FitsSigned w32 n
fits-32 (pos n) e = record { sfits = grind (arith, nat_tests) }
fits-32 (negsuc n) e = record { sfits = grind (arith, nat_tests) }

pub fits-64 : (n : ℤ) → fits_64 n ≡ true → FitsSigned w64 n
fits-64 (pos n) e = record { sfits = grind (arith, nat_tests) }
fits-64 (negsuc n) e = record { sfits = grind (arith, nat_tests) }
