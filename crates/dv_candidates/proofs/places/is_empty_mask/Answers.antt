use Rattle.std.proofs.Common.{◌≡◌, ℕ, ◌<◌, ◌^◌, ◌==◌, Bool, true, false, refl, arith, tests, w64}
use Rattle.std.specs.Bool.{MatchBool}
use Rattle.std.specs.Int.{bit_at, trailing_zeros}
use Rattle.std.proofs.lemmas.Nat.Bits.{bit_at-trailing_zeros}
use Rattle.dv_candidates.proofs.places.is_empty_mask.Goals as goal

cases : (mask : ℕ) (empty : Bool) → (mask == 0) ≡ empty → mask < 2 ^ 64 → MatchBool empty (mask ≡ 0) ((place : ℕ) × (place < 64) × (bit_at mask place ≡ 1))
cases mask true e fits = grind (arith, tests)
cases mask false e fits =
    let first = bit_at-trailing_zeros w64 mask (grind (arith, tests)) fits in
    (trailing_zeros w64 mask, first.0, first.1)

pub returns : goal.returns
returns c = cases c.args.mask _ refl (omega arith)
