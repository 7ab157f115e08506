-- What holds of all connections while some are open.
use Rattle.std.specs.Prelude.{◌≡◌, ◌≢◌, ℕ, suc, ◌<◌, ◌≤◌, ◌+◌, List, [], ◌∷◌, ◌++◌, length, map, Option, Some, ⊤, IfSome}
use Rattle.std.specs.List.{AllByRecursion, AllPairs, filter_map}
use Rattle.std.specs.List.Sorted.{IsPermutation}
use Rattle.dv_host.specs.Outside.{Closed}
use Rattle.dv_host.specs.Schedule.{Step, opened, PlaysBy, steps_of, session_in, openings, IsPieceOf, IsFair, StayFew, open_behind}
use Rattle.dv_host.specs.View.{Seen}
use Rattle.dv_host.specs.Host.{Accepted, Finished, refused, served, sessions_of, session_at, IsIn, Come, Close, Follows, WasServed, most_open}
use Rattle.dv_host.specs.Inner.Links.{seen_by}
use Rattle.dv_host.specs.declared.link.Link.{Link}

-- ---- sessions

-- a session is open: it was opened, and then only pieces of its bytes arrived
pub record IsOpen (steps : List Step) (session : ℕ) : Type 0 where
  pub pieces : List Step
  pub are_pieces : AllByRecursion (IsPieceOf session) pieces
  pub in_order : steps_of session steps ≡ opened (Some session) ∷ pieces

-- the number of the step's session is below the next one
abbrev pub IsBelow : ℕ → Step → Type 0
IsBelow next step = IfSome (session_in step) (λ session. session < next)

-- ---- connections

-- each connection, closed or open, has a session of its own, or was refused one
pub record ShareSessions (steps : List Step) (accepted : List Accepted) (finished : List Finished) (links : List Seen) : Type 0 where
  pub opened_so : openings steps ≡ sessions_of accepted
  pub ascend : AllPairs (λ before later. before < later) (filter_map (λ one. one.session) accepted)
  pub once_each : IsPermutation (sessions_of accepted) (map session_at finished ++ map (λ link. Some link.session) links)
  pub no_others : AllByRecursion (λ step. IsIn (session_in step) (sessions_of accepted)) steps

-- the sessions of open connections ascend, and are below the next number
abbrev pub AreNumbered : ℕ → List Seen → ℕ → Type 0
AreNumbered first [] next = first ≤ next
AreNumbered first (link ∷ links) next = (first ≤ link.session) × AreNumbered (suc link.session) links next

-- the session of a closed connection is not one of the open ones
abbrev pub IsApart : List Seen → Finished → Type 0
IsApart links (refused left taken) = ⊤
IsApart links (served was fate) = AllByRecursion (λ link. was.session ≢ link.session) links

-- the session of a closed connection is below the next number
abbrev pub IsBehind : ℕ → Finished → Type 0
IsBehind next (refused left taken) = ⊤
IsBehind next (served was fate) = was.session < next

-- Connections arrived, each with a session of its own, and were closed, each after its session ended; these are open. It is `Served` of
-- those that were closed, and of the open ones that they follow the schedule and that their sessions are open.
pub record Hosts {W : Type 0} (Plays : W → List Step → W → Type 0) (coming_old coming_new : Option (List (List ℕ))) (closed_old closed_new : Option (List Closed)) (old new : W) (next count : ℕ) (links : List Seen) : Type 0 where
  pub steps : List Step
  pub played : Plays old steps new
  pub fair : AllByRecursion IsFair steps
  pub few : StayFew most_open 0 steps
  pub open_are : open_behind 0 steps ≡ length links
  pub accepted : List Accepted
  pub many : length accepted ≡ count
  pub come : Come coming_old accepted coming_new
  pub finished : List Finished
  pub close : Close closed_old finished closed_new
  pub sessions : ShareSessions steps accepted finished links
  pub counted : length accepted ≡ length finished + length links
  pub live : AllByRecursion (Follows steps accepted) links
  pub stay_open : AllByRecursion (λ link. IsOpen steps link.session) links
  pub were_served : AllByRecursion (WasServed steps accepted) finished
  pub numbered : AreNumbered 0 links next
  pub below : AllByRecursion (IsBelow next) steps
  pub gone : AllByRecursion (IsBehind next) finished
  pub apart : AllByRecursion (IsApart links) finished

-- from the start of serving to the present sessions and connections, everything happened as `Hosts` says
abbrev pub Stands : {W O C : Type 0} → (W → Step → W → Type 0) → (W → ℕ) → (O → Option (List (List ℕ))) → (O → Option (List Closed)) → (C → Option (List ℕ)) → (C → Option (List ℕ)) → O → W → ℕ → O → W → List (Link C) → Type 0
Stands Happens next coming closed remaining contents first start count outside sessions links =
    Hosts (PlaysBy Happens) (coming first) (coming outside) (closed first) (closed outside) start sessions (next sessions) count (map (seen_by remaining contents) links)
