-- What is made of a result, where it is one.
use Rattle.std.proofs.Common.{◌≡◌, refl, ap, Result, Ok, Err}
use Rattle.std.specs.Result.{result_err}
use Rattle.dv_candidates.specs.declared.fault.PathFault.{PathFault}
use Rattle.dv_path.specs.Placing.{result_map}

pub refused-further : {X Y : Type 0} (f : X → Y) (r : Result X PathFault) → result_err (result_map f r) ≡ result_err r
refused-further f (Ok x) = refl
refused-further f (Err e) = refl

-- two ways that lead to the same
pub map-both : {X Y Z W : Type 0} (f : Y → Z) (g : X → Y) (h : W → Z) (k : X → W) → ((x : X) → f (g x) ≡ h (k x)) → (r : Result X PathFault) → result_map f (result_map g r) ≡ result_map h (result_map k r)
map-both f g h k same (Ok x) = ap Ok (same x)
map-both f g h k same (Err e) = refl

-- where nothing is refused, there is what it is made of
pub made-by : {X Y : Type 0} (f : X → Y) (r : Result X PathFault) (y : Y) → result_map f r ≡ Ok y → (x : X) × (r ≡ Ok x) × (f x ≡ y)
made-by f (Ok x) y e = (x, refl, cc)
made-by f (Err g) y e = absurd cc
