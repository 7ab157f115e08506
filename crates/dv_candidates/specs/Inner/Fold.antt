-- Folding over candidates: a value that calls change, candidate by candidate.
use Rattle.std.specs.Prelude.{◌≡◌, Bool, true, List, [], ◌∷◌, ◌++◌, Result, Ok, Err, MatchResult}
use Rattle.std.specs.List.{list_any, FoldsTo}
use Rattle.dv_candidates.specs.Candidates.{Candidate}

-- a call at what is seen as this candidate takes t to u
pub record Takes {T X E : Type 0} (seen : X → Candidate) (call : T → X → Result T E → Type 0) (t : T) (c : Candidate) (u : T) : Type 0 where
  pub at : X
  pub is : seen at ≡ c
  pub gives : call t at (Ok u)

-- a call at what is seen as this candidate stops at t with this error
pub record Stops {T X E : Type 0} (seen : X → Candidate) (call : T → X → Result T E → Type 0) (t : T) (c : Candidate) (e : E) : Type 0 where
  pub at : X
  pub is : seen at ≡ c
  pub gives : call t at (Err e)

-- calls took t to u at candidates, one after the other: what passes a test among them is one that may be taken, and what
-- has to be taken is among them
pub record FoldsOver {T X E : Type 0} (seen : X → Candidate) (call : T → X → Result T E → Type 0) (May Must : (Candidate → Bool) → Type 0) (t u : T) : Type 0 where
  pub taken : List Candidate
  pub calls : FoldsTo (Takes seen call) t taken u
  pub only : (p : Candidate → Bool) → list_any p taken ≡ true → May p
  pub every : (p : Candidate → Bool) → Must p → list_any p taken ≡ true

-- calls took t on at candidates that may be taken, and the last call stopped with this error
pub record StopsAmong {T X E : Type 0} (seen : X → Candidate) (call : T → X → Result T E → Type 0) (May : (Candidate → Bool) → Type 0) (t : T) (e : E) : Type 0 where
  pub taken : List Candidate
  pub reached : T
  pub last : Candidate
  pub calls : FoldsTo (Takes seen call) t taken reached
  pub stops : Stops seen call reached last e
  pub only : (p : Candidate → Bool) → list_any p (taken ++ last ∷ []) ≡ true → May p

-- the result of a fold over candidates: as a set they are those among which exactly the wanted tests pass
pub record Folded {T X E : Type 0} (seen : X → Candidate) (call : T → X → Result T E → Type 0) (Wanted : (Candidate → Bool) → Type 0) (t : T) (result : Result T E) : Type 0 where
  pub outcome : MatchResult result (FoldsOver seen call Wanted Wanted t) (StopsAmong seen call Wanted t)

-- a test that one of the candidates passes
pub record PassesOne (cs : List Candidate) (p : Candidate → Bool) : Type 0 where
  pub passes : list_any p cs ≡ true
