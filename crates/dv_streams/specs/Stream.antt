-- How often readers and writers have failed, and the number of reads.
use Rattle.std.specs.Prelude.{◌≡◌, ℕ, zero, suc, ◌+◌, ◌%◌, ◌^◌, Result, Ok, Err}

-- one more, in a count of 64 bits, which begins again at 0
abbrev pub once_more : ℕ → ℕ
once_more failures = (failures + 1) % 2 ^ 64

-- the number of failures of a reader after a read
abbrev pub failures_read : {E : Type 0} → Result ℕ E → ℕ → ℕ
failures_read (Ok count) failures = failures
failures_read (Err e) failures = once_more failures

-- the number of failures of a writer after a write; taking none of the bytes is a failure
abbrev pub failures_written : {E : Type 0} → Result ℕ E → ℕ → ℕ
failures_written (Ok zero) failures = once_more failures
failures_written (Ok (suc n)) failures = failures
failures_written (Err e) failures = once_more failures

-- the count has grown by this number, in 64 bits
abbrev pub MoreBy : ℕ → ℕ → ℕ → Type 0
MoreBy many old new = new % 2 ^ 64 ≡ (old + many) % 2 ^ 64
