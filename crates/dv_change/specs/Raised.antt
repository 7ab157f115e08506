-- A count with a greatest value.
use Rattle.std.specs.Prelude.{ℕ, ◌+◌, ◌-◌, min}

-- the count increased by a number, and at most 9,223,372,036,854,775,807
abbrev pub raised : ℕ → ℕ → ℕ
raised n by = n + min by (9223372036854775807 - n)
