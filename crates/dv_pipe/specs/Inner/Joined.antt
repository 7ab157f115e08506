-- The filter of documents that rows are joined with.
use Rattle.std.specs.Prelude.{◌≡◌, ◌||◌, ℕ, Bool, List}
use Rattle.std.specs.List.{list_any}
use Rattle.dv_value.specs.Tree.{Tree}
use Rattle.dv_match.specs.Filter.{Members, no_members, more_members, at_path, no_conditions, more_conditions, among}

-- some leaf compares equal to one of the values
abbrev pub having_one_of : List (List ℕ) → List Tree → Members
having_one_of path values = more_members (at_path path (more_conditions (among values) no_conditions)) no_members

-- for any test, one of `all` passes exactly if one of `old` or one of `more` passes
abbrev pub AddsToTests : List Tree → List Tree → List Tree → Type 0
AddsToTests more old all = (test : Tree → Bool) → list_any test all ≡ (list_any test old || list_any test more)
