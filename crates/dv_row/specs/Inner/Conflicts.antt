-- Conflicts among the paths of a $project, and members that are taken before it is known whether there is one.
use Rattle.std.specs.Prelude.{◌≡◌, ◌⊎◌, ◌||◌, ℕ, Bool, false, List, [], ◌∷◌, Result, Err, MatchResult}
use Rattle.std.specs.List.{list_any}
use Rattle.dv_row.specs.declared.fault.PipelineFault.{PipelineFault}
use Rattle.dv_row.specs.declared.fault.PipelineFault.TheVariants.{NoMemory}
use Rattle.dv_row.specs.ProjectParsing.{AskedMembers, one_begins, conflicts_with_asked, unless_conflict}

-- one of the paths begins another one, or equals it
abbrev pub paths_conflict : List (List (List ℕ)) → Bool
paths_conflict [] = false
paths_conflict (p ∷ ps) = list_any (one_begins p) ps || paths_conflict ps

-- a member was taken, and its path is asked for from now on: the member's result is as defined, except for a conflict of that path
pub record IsMemberTaken (member : Result AskedMembers PipelineFault) (before : AskedMembers) (path : List (List ℕ)) (after : AskedMembers) : Type 0 where
  pub stands : member ≡ unless_conflict path before after
  pub asks : (p : List (List ℕ)) → conflicts_with_asked p after ≡ (conflicts_with_asked p before || one_begins p path)

-- a member that is taken returns its path, and one that is refused returns its fault, unless memory runs out
abbrev pub TakesMember : Result (List (List ℕ)) PipelineFault → Result AskedMembers PipelineFault → AskedMembers → AskedMembers → Type 0
TakesMember result member before after = MatchResult result (λ path. IsMemberTaken member before path after) (λ e. (e ≡ NoMemory) ⊎ (member ≡ Err e))
