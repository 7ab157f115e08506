-- Schedules: what happens to sessions, one step after the other.
use Rattle.std.specs.Prelude.{◌≡◌, ℕ, suc, ◌+◌, ◌-◌, ◌≤◌, Bool, List, [], ◌∷◌, ◌++◌, length, Option, Some, None, ◌==◌, if◌then◌else◌, ⊤}
use Rattle.std.specs.List.{AllByRecursion, filter}
use Rattle.std.specs.Option.{option_eq}
use Rattle.dv_host.specs.declared.sessions.Fed.{Fed}
use Rattle.dv_host.specs.declared.sessions.Fed.TheVariants.{Open, Closed, Unknown}

-- a session is opened with this number, or refused; a piece of a session's bytes arrives, with the bytes of its replies and what is
-- reported of the session; a session ends
pub data Step : Type 0 where
  opened : Option ℕ → Step
  fed : ℕ → List ℕ → List ℕ → Fed → Step
  ended : ℕ → Step

-- a step happens: a session is opened, receives bytes, or ends, by these relations
abbrev pub HappensBy : {W : Type 0} → (W → Option ℕ → W → Type 0) → (W → ℕ → List ℕ → List ℕ → Fed → W → Type 0) → (W → ℕ → W → Type 0) → W → Step → W → Type 0
HappensBy Opens Feeds Ends old (opened result) new = Opens old result new
HappensBy Opens Feeds Ends old (fed session piece bytes told) new = Feeds old session piece bytes told new
HappensBy Opens Feeds Ends old (ended session) new = Ends old session new

-- steps happen in order
abbrev pub PlaysBy : {W : Type 0} → (W → Step → W → Type 0) → W → List Step → W → Type 0
PlaysBy Happens old [] new = new ≡ old
PlaysBy {W} Happens old (step ∷ steps) new = (mid : W) × Happens old step mid × PlaysBy Happens mid steps new

-- ---- the steps of one session

-- the session of a step; none if it was refused
abbrev pub session_in : Step → Option ℕ
session_in (opened result) = result
session_in (fed session piece bytes told) = Some session
session_in (ended session) = Some session

-- whether it is a step of this session
abbrev pub is_step_of : ℕ → Step → Bool
is_step_of session step = option_eq (λ a b. a == b) (session_in step) (Some session)

-- the steps of a session, in order
abbrev pub steps_of : ℕ → List Step → List Step
steps_of session steps = filter (is_step_of session) steps

-- the bytes that arrive from a session in a step
abbrev pub heard_in : ℕ → Step → List ℕ
heard_in session (opened result) = []
heard_in session (fed other piece bytes told) = if other == session then piece else []
heard_in session (ended other) = []

-- the bytes that arrive from a session
abbrev pub heard : ℕ → List Step → List ℕ
heard session [] = []
heard session (step ∷ steps) = heard_in session step ++ heard session steps

-- the bytes of replies to a session in a step
abbrev pub answers_in : ℕ → Step → List ℕ
answers_in session (opened result) = []
answers_in session (fed other piece bytes told) = if other == session then bytes else []
answers_in session (ended other) = []

-- the bytes of replies to a session
abbrev pub answers : ℕ → List Step → List ℕ
answers session [] = []
answers session (step ∷ steps) = answers_in session step ++ answers session steps

-- `next` applied to the replies and the report of a step, if it is a piece of the session
abbrev pub behind_step : {A : Type 0} → (A → List ℕ → Fed → A) → ℕ → A → Step → A
behind_step next session before (opened result) = before
behind_step next session before (fed other piece bytes told) = if other == session then next before bytes told else before
behind_step next session before (ended other) = before

-- `next` applied to the replies and the report of each piece of the session, in order
abbrev pub behind : {A : Type 0} → (A → List ℕ → Fed → A) → ℕ → A → List Step → A
behind next session before [] = before
behind next session before (step ∷ steps) = behind next session (behind_step next session before step) steps

-- the next piece of a session waits while at least this many bytes of its replies are unsent
abbrev pub enough : ℕ
enough = 65536

-- the greatest number of unsent bytes after a piece with these replies
abbrev pub unsent_behind : ℕ → List ℕ → Fed → ℕ
unsent_behind before bytes told = enough + length bytes

-- the greatest number of unsent bytes of a session: `enough` and the replies to its last piece; the number before these steps if none
-- is a piece of it
abbrev pub may_wait : ℕ → ℕ → List Step → ℕ
may_wait session before steps = behind unsent_behind session before steps

-- the fault that has closed a session, after a report of it
abbrev pub closed_by : Fed → Option ℕ → Option ℕ
closed_by Open before = before
closed_by (Closed fault) before = Some fault
closed_by Unknown before = before

-- the fault that has closed a session, after a piece with these replies and this report
abbrev pub closing_behind : Option ℕ → List ℕ → Fed → Option ℕ
closing_behind before bytes told = closed_by told before

-- the fault that has closed a session, after these steps
abbrev pub closing : ℕ → Option ℕ → List Step → Option ℕ
closing session before steps = behind closing_behind session before steps

-- ---- what holds of steps

-- the greatest number of bytes in a piece
abbrev pub longest_piece : ℕ
longest_piece = 65536

-- the step is a piece of this session, and not too long
abbrev pub IsPieceOf : ℕ → Step → Type 0
IsPieceOf session (opened result) = ⊥
IsPieceOf session (fed other piece bytes told) = (other ≡ session) × (length piece ≤ longest_piece)
IsPieceOf session (ended other) = ⊥

-- a session has ended: it was opened, then only pieces of its bytes arrived, and then it ended, and nothing after that
pub record HasEnded (steps : List Step) (session : ℕ) : Type 0 where
  pub pieces : List Step
  pub are_pieces : AllByRecursion (IsPieceOf session) pieces
  pub in_order : steps_of session steps ≡ opened (Some session) ∷ pieces ++ ended session ∷ []

-- the result of each opening of a session, in order
abbrev pub openings : List Step → List (Option ℕ)
openings [] = []
openings (opened result ∷ steps) = result ∷ openings steps
openings (fed session piece bytes told ∷ steps) = openings steps
openings (ended session ∷ steps) = openings steps

-- a piece in the step is not too long
abbrev pub IsFair : Step → Type 0
IsFair (opened result) = ⊤
IsFair (fed other piece bytes told) = length piece ≤ longest_piece
IsFair (ended other) = ⊤

-- the number of open sessions after a step
abbrev pub open_in : ℕ → Step → ℕ
open_in count (opened None) = count
open_in count (opened (Some session)) = suc count
open_in count (fed other piece bytes told) = count
open_in count (ended session) = count - 1

-- the number of open sessions after these steps
abbrev pub open_behind : ℕ → List Step → ℕ
open_behind count [] = count
open_behind count (step ∷ steps) = open_behind (open_in count step) steps

-- at no time are more than this number of sessions open
abbrev pub StayFew : ℕ → ℕ → List Step → Type 0
StayFew most count [] = count ≤ most
StayFew most count (step ∷ steps) = (count ≤ most) × StayFew most (open_in count step) steps
