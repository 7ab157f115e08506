-- What a candidate in memory represents.
use Rattle.std.specs.Prelude.{Some, None}
use Rattle.dv_value.specs.View.{tree}
use Rattle.dv_candidates.specs.declared.candidate.Candidate.{Candidate}
use Rattle.dv_candidates.specs.declared.candidate.Candidate.TheVariants.{Found, Missing}
use Rattle.dv_candidates.specs.Candidates as candidates

-- the candidate that a candidate in memory represents
abbrev pub seen : Candidate → candidates.Candidate
seen (Found value) = Some (tree value.now)
seen Missing = None
