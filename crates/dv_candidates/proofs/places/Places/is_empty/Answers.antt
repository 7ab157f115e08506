use Rattle.std.proofs.Common.{◌≡◌, ℕ, ◌<◌, Bool, true, false}
use Rattle.std.specs.Bool.{MatchBool}
use Rattle.std.specs.Int.{bit_at}
use Rattle.dv_candidates.specs.Inner.Places.{has}
use Rattle.dv_candidates.proofs.Bits.{none, some}
use Rattle.dv_candidates.proofs.places.Places.is_empty.Goals as goal

cases : (mask : ℕ) (empty : Bool) → MatchBool empty (mask ≡ 0) ((place : ℕ) × (place < 64) × (bit_at mask place ≡ 1)) → MatchBool empty ((place : ℕ) → has (record { mask = mask }) place ≡ false) ((place : ℕ) × (has (record { mask = mask }) place ≡ true))
cases mask true e = rw e none
cases mask false s = (s.0, some mask s.0 s.1 s.2)

pub returns : goal.returns
returns c = cases c.args.self.mask _ c.is_empty_mask.ensures
