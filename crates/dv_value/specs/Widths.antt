-- Which integers fit in an int32 or an int64.
use Rattle.std.specs.Prelude.{ℤ, pos, negsuc, ◌^◌, nat_lt, Bool}

-- whether the integer fits in an int32
abbrev pub fits_32 : ℤ → Bool
fits_32 (pos n) = nat_lt n (2 ^ 31)
fits_32 (negsuc n) = nat_lt n (2 ^ 31)

-- whether the integer fits in an int64
abbrev pub fits_64 : ℤ → Bool
fits_64 (pos n) = nat_lt n (2 ^ 63)
fits_64 (negsuc n) = nat_lt n (2 ^ 63)
