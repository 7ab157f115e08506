-- Which documents a find returns, and in which order (MongoDB manual, "find", "Sort Consistency"). That documents which the sort
-- doesn't distinguish, or all if there is no sort, keep the order of their list, in a collection the order of `_id`, is this server's
-- own.
use Rattle.std.specs.Prelude.{ℕ, zero, suc, List, take, drop}
use Rattle.std.specs.List.{filter}
use Rattle.dv_value.specs.Tree.{Field}
use Rattle.dv_path.specs.SortSpec.{Part}
use Rattle.dv_match.specs.Filter.{Members}
use Rattle.dv_match.specs.Match.{matches}
use Rattle.dv_sort.specs.Sorting.{stable}

-- the documents that match a filter
abbrev pub matching : Members → List (List Field) → List (List Field)
matching form documents = filter (matches form) documents

-- the first documents up to a limit; 0 means no limit
abbrev pub limited : ℕ → List (List Field) → List (List Field)
limited zero documents = documents
limited (suc n) documents = take (suc n) documents

-- the documents of a find: those that match, sorted, without the first `skip`, and at most `limit`
abbrev pub scan : Members → List Part → ℕ → ℕ → List (List Field) → List (List Field)
scan form sort skip limit documents = limited limit (drop skip (stable sort (matching form documents)))
