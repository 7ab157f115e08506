-- How often readers, writers and ports have failed, after they were used.
use Rattle.std.specs.Prelude.{ℕ, Bool, Result, Ok, Err, if◌then◌else◌}
use Rattle.dv_streams.specs.Stream.{once_more}

-- the number of failures after an attempt
abbrev pub failures_behind : {A E : Type 0} → Result A E → ℕ → ℕ
failures_behind (Ok done) failures = failures
failures_behind (Err fault) failures = once_more failures

-- the number of failures after a use: one more if the result is a fault of its own, otherwise as before
abbrev pub failures_told : {A E : Type 0} → (E → Bool) → Result A E → ℕ → ℕ
failures_told is_own (Ok done) failures = failures
failures_told is_own (Err fault) failures = if is_own fault then once_more failures else failures
