-- The program's arguments.
use Rattle.std.specs.Prelude.{ℕ, Bool, ◌==◌, ◌&&◌, List, length, nat_lt, Option, Some, None, if◌then◌else◌}
use Rattle.std.specs.List.{after_first, before_first, list_any, position_or_len}

abbrev pub is_equals : ℕ → Bool
is_equals b = b == 61

abbrev pub is_dot : ℕ → Bool
is_dot b = b == 46

-- what a load's text says: the namespace before its first `=`, which contains a dot, and the file after it
abbrev pub load_in : List ℕ → Option (List ℕ × List ℕ)
load_in text =
    if nat_lt (position_or_len is_equals text) (length text) && list_any is_dot (before_first is_equals text)
    then Some (before_first is_equals text, after_first is_equals text) else None
