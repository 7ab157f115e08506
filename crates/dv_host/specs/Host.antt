-- Serving many connections at once.
use Rattle.std.specs.Prelude.{◌≡◌, ℕ, ◌<◌, ◌≤◌, List, [], ◌∷◌, ◌++◌, length, map, Option, Some, None, ⊤, ◌⊎◌, IfSome}
use Rattle.std.specs.List.{AllByRecursion, AllPairs, filter_map}
use Rattle.std.specs.List.Sorted.{IsPermutation}
use Rattle.std.specs.Io.KnownBytes.{Consumes, IsAtEnd, Keeps}
use Rattle.dv_host.specs.Outside.{Accepts, Closed, Closes, HasTaken}
use Rattle.dv_host.specs.Schedule.{Step, session_in, heard, answers, may_wait, closing, openings, HasEnded, IsFair, StayFew, open_behind}
use Rattle.dv_host.specs.View.{Seen}
use Rattle.dv_host.specs.declared.link.Fate.{Fate}
use Rattle.dv_host.specs.declared.link.Fate.TheVariants as fates

-- ---- one connection

-- what the end of a connection implies: unless it failed, all replies were taken; after `Closed` this fault closed the session; after
-- `Ended` and `Full` none did, and all that was read was passed on; after `Ended` the whole input was read
abbrev pub Settles : Fate → Seen → Type 0
Settles fates.Ended link = IsAtEnd link.left × (link.unsent ≡ []) × (link.pending ≡ []) × (link.closing ≡ None)
Settles (fates.Closed fault) link = (link.unsent ≡ []) × (link.closing ≡ Some fault)
Settles fates.Full link = (link.unsent ≡ []) × (link.pending ≡ []) × (link.closing ≡ None)
Settles fates.Failed link = ⊤

-- ---- all connections

-- a connection that was accepted: its session, if one was opened, and its bytes, if they are known
pub record Accepted : Type 0 where
  pub session : Option ℕ
  pub input : Option (List ℕ)

-- a closed connection: one without a session, with the bytes that were left and taken; or one with a session, as it appeared at its
-- end, and how it ended
pub data Finished : Type 0 where
  refused : Option (List ℕ) → Option (List ℕ) → Finished
  served : Seen → Fate → Finished

-- the sessions of accepted connections; none for one that was refused
abbrev pub sessions_of : List Accepted → List (Option ℕ)
sessions_of accepted = map (λ one. one.session) accepted

-- the session of a closed connection, if it had one
abbrev pub session_at : Finished → Option ℕ
session_at (refused left taken) = None
session_at (served link fate) = Some link.session

-- the bytes of a closed connection's input that were left
abbrev pub left_of : Finished → Option (List ℕ)
left_of (refused left taken) = left
left_of (served link fate) = link.left

-- the bytes that a closed connection took
abbrev pub taken_of : Finished → Option (List ℕ)
taken_of (refused left taken) = taken
taken_of (served link fate) = link.taken

-- how a closed connection ended
abbrev pub fate_of : Finished → Fate
fate_of (refused left taken) = fates.Failed
fate_of (served link fate) = fate

-- x is in the list
abbrev pub IsIn : {A : Type 0} → A → List A → Type 0
IsIn x [] = ⊥
IsIn x (y ∷ ys) = (x ≡ y) ⊎ IsIn x ys

-- connections arrive, one after the other
abbrev pub Come : Option (List (List ℕ)) → List Accepted → Option (List (List ℕ)) → Type 0
Come old [] new = new ≡ old
Come old (next ∷ others) new = (mid : Option (List (List ℕ))) × Accepts old next.input mid × Come mid others new

-- connections are closed, one after the other
abbrev pub Close : Option (List Closed) → List Finished → Option (List Closed) → Type 0
Close old [] new = new ≡ old
Close old (next ∷ others) new = (mid : Option (List Closed)) × Closes old (left_of next) (taken_of next) (fate_of next) mid × Close mid others new

-- How a connection follows a schedule. The pieces of its session are the bytes that were read from it, without those that were not
-- passed on yet. It has taken all replies to them but the last bytes. These are few, since a piece is passed on only while fewer than
-- 65,536 bytes of replies are unsent.
pub record Follows (steps : List Step) (accepted : List Accepted) (link : Seen) : Type 0 where
  pub input : Option (List ℕ)
  pub known : IsIn (record { session = Some link.session; input = input }) accepted
  pub read : List ℕ
  pub consumed : Consumes input link.left read
  pub fed_so : read ≡ heard link.session steps ++ link.pending
  pub given : List ℕ
  pub took : HasTaken link.taken given
  pub answered : answers link.session steps ≡ given ++ link.unsent
  pub few : length link.unsent ≤ may_wait link.session 0 steps
  pub shut : link.closing ≡ closing link.session None steps

-- a closed connection had a session, which was opened, received pieces of its bytes, and then ended; or it had no session, and nothing was
-- read from it and it took nothing
abbrev pub WasServed : List Step → List Accepted → Finished → Type 0
WasServed steps accepted (refused left taken) = (input : Option (List ℕ)) × IsIn (record { session = None; input = input }) accepted × Keeps input left × HasTaken taken []
WasServed steps accepted (served link fate) = Follows steps accepted link × Settles fate link × HasEnded steps link.session

-- Each connection has a session of its own, or was refused one: those that were opened are those of the accepted connections, in order;
-- their numbers ascend; each is that of exactly one closed connection; and each step is of one of them.
pub record HaveOwnSessions (steps : List Step) (accepted : List Accepted) (finished : List Finished) : Type 0 where
  pub opened_so : openings steps ≡ sessions_of accepted
  pub ascend : AllPairs (λ before later. before < later) (filter_map (λ one. one.session) accepted)
  pub once_each : IsPermutation (sessions_of accepted) (map session_at finished)
  pub no_others : AllByRecursion (λ step. IsIn (session_in step) (sessions_of accepted)) steps

-- the numbers of the sessions of accepted connections are below this one
abbrev pub AreBelow : ℕ → List Accepted → Type 0
AreBelow next accepted = AllByRecursion (λ session. IfSome session (λ number. number < next)) (sessions_of accepted)

-- the greatest number of open connections
abbrev pub most_open : ℕ
most_open = 1000

-- This number of connections arrived, and all of them were closed. Each had a session of its own, or was refused one. What happened to the
-- sessions is a schedule, from the old world to the new one: each was opened, then received pieces of its connection's bytes, and then
-- ended. No piece is longer than 65,536 bytes, at no time are more than 1,000 sessions open, and none is open at the end.
pub record Served {W : Type 0} (Plays : W → List Step → W → Type 0) (coming_old coming_new : Option (List (List ℕ))) (closed_old closed_new : Option (List Closed)) (old new : W) (count : ℕ) : Type 0 where
  -- the schedule
  pub steps : List Step
  pub played : Plays old steps new
  pub fair : AllByRecursion IsFair steps
  pub few : StayFew most_open 0 steps
  pub none_open : open_behind 0 steps ≡ 0
  -- the connections, in the order in which they arrived
  pub accepted : List Accepted
  pub many : length accepted ≡ count
  pub come : Come coming_old accepted coming_new
  -- the same connections, in the order in which they were closed
  pub finished : List Finished
  pub close : Close closed_old finished closed_new
  pub sessions : HaveOwnSessions steps accepted finished
  pub were_served : AllByRecursion (WasServed steps accepted) finished
