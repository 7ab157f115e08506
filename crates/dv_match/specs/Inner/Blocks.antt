-- Values that candidates are compared with together: a block of values, and a mark for each to which a candidate was equal.
use Rattle.std.specs.Prelude.{◌≡◌, ◌==◌, ◌||◌, ◌<◌, ◌≤◌, ℕ, Bool, List, length, slice_index_or}
use Rattle.std.specs.Int.{bit_at}
use Rattle.std.specs.List.{list_any}
use Rattle.dv_value.specs.View.{tree}
use Rattle.dv_value.specs.declared.value.Value.{Value}
use Rattle.dv_candidates.specs.Candidates.{Candidate}
use Rattle.dv_match.specs.Inner.Choices.{Ascend}
use Rattle.dv_match.specs.Match.{is_equal}
use Rattle.dv_match.specs.declared.marks.Marks.{Marks}

-- values in order, at least one, and at most as many as there can be marks for
pub record IsBlock (values : List Value) : Type 0 where
  pub ascending : Ascend values
  pub some : 0 < length values
  pub few : length values ≤ 128

-- whether the value at a place has a mark
unfoldable pub has : Marks → ℕ → Bool
has marks place = bit_at marks.bits place == 1

abbrev pub no_marks : Marks
no_marks = record { bits = 0 }

-- one of the candidates compares equal to the value
abbrev pub has_equal : List Candidate → Value → Bool
has_equal cs v = list_any (is_equal (tree v)) cs

-- the marks that there were, and one for each value to which one of the candidates compares equal
pub record Marked (block : List Value) (cs : List Candidate) (before after : Marks) : Type 0 where
  pub at : (k : ℕ) (d : Value) → k < length block → has after k ≡ has before k || has_equal cs (slice_index_or block k d)
