-- Counts that wrap at 2^64, one step on.
use Rattle.std.specs.Prelude.{ℕ, ◌+◌, ◌^◌, ◌<◌, ◌≤◌}
use Rattle.std.proofs.Common.{arith}
use Rattle.dv_streams.specs.Stream.{MoreBy}
use Rattle.dv_wire.specs.Service.{AsksFew, most_reads}

pub no_more : (count : ℕ) → MoreBy 0 count count
no_more count = omega arith

pub one_more : (many old mid new : ℕ) → MoreBy many old mid → MoreBy 1 mid new → MoreBy (many + 1) old new
one_more many old mid new before now = omega (arith, before, now)

-- ---- how often a reader was asked

-- one more read is allowed
pub asks_few : (reads old mid new : ℕ) → reads < 2 ^ 32 → MoreBy reads old mid → MoreBy 1 mid new → AsksFew old new
asks_few reads old mid new few before now = (reads + 1, omega (arith, few), one_more reads old mid new before now)

pub asks_most : (reads old new : ℕ) → reads ≤ 2 ^ 32 → 2 ^ 32 ≤ reads → MoreBy reads old new → MoreBy most_reads old new
asks_most reads old new most least asked = omega (arith, most, least, asked)
