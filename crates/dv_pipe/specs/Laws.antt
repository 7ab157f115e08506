-- Definitions that the laws about pipelines use.
use Rattle.std.specs.Prelude.{◌≡◌, ℕ, Bool, true, false, List, Some, None, filter, ⊤}
use Rattle.std.specs.List.{AllByRecursion}
use Rattle.dv_value.specs.Spelling.{AreFields}
use Rattle.dv_value.specs.Tree.{array, fields_of, null}
use Rattle.dv_candidates.specs.Candidates.{Candidate}
use Rattle.dv_gather.specs.declared.lookup.Lookup.{Lookup}
use Rattle.dv_gather.specs.Lookups.{looked_up}
use Rattle.dv_match.specs.Match.{matches}
use Rattle.dv_match.specs.Filter.{Members, all_of, no_members, more_members, no_filters, more_filters}
use Rattle.dv_pipe.specs.Sources.{Row}
use Rattle.dv_pipe.specs.Stages.{Lists}
use Rattle.dv_row.specs.Unwinding.{reached}

-- the filter {$and: [f, g]}
abbrev pub both : Members → Members → Members
both f g = more_members (all_of (more_filters f (more_filters g no_filters))) no_members

-- the candidate isn't an array
abbrev pub IsNoArrayCandidate : Candidate → Type 0
IsNoArrayCandidate (Some (array vs)) = ⊥
IsNoArrayCandidate c = ⊤

-- what the path leads to, through documents only, isn't an array
abbrev pub LeadsToNoArray : List (List ℕ) → Row → Type 0
LeadsToNoArray path d = IsNoArrayCandidate (reached path d)

-- whether the candidate is a value other than null
abbrev pub is_value_but_null : Candidate → Bool
is_value_but_null None = false
is_value_but_null (Some null) = false
is_value_but_null (Some v) = true

-- whether the path leads, through documents only, to a value other than null
abbrev pub has_value : List (List ℕ) → Row → Bool
has_value path d = is_value_but_null (reached path d)

-- the lists of each namespace that passes are the same
abbrev pub AgreeWhere : (List ℕ → Bool) → Lists → Lists → Type 0
AgreeWhere passes lists others = (namespace : List ℕ) → passes namespace ≡ true → lists namespace ≡ others namespace

-- each document is valid, so it has an encoding unless it is too long for one
abbrev pub AreSpellable : List Row → Type 0
AreSpellable documents = AllByRecursion (λ d. AreFields (fields_of d)) documents

-- so is each document of each namespace
abbrev pub AllSpellable : Lists → Type 0
AllSpellable lists = (namespace : List ℕ) → AreSpellable (lists namespace)

-- whatever documents there are, the rows are joined with the same ones if only those that match the filter are there
abbrev pub MatchesAllJoined : Lookup → List Row → Members → Type 0
MatchesAllJoined lookup rows form = (others : List Row) → looked_up lookup rows (filter (matches form) others) ≡ looked_up lookup rows others
