-- What the parts of serving do: to all connections, and to one.
use Rattle.std.specs.Prelude.{◌≡◌, ℕ, ◌+◌, Bool, List, [], Option, None, OnOk, Result, if◌then◌else◌}
use Rattle.dv_host.specs.Outside.{Closed}
use Rattle.dv_host.specs.Schedule.{Step}
use Rattle.dv_host.specs.View.{Seen}
use Rattle.dv_host.specs.Inner.Links.{seen_by}
use Rattle.dv_host.specs.Inner.Moving.{Moves}
use Rattle.dv_host.specs.Inner.Hosting.{Stands}
use Rattle.dv_host.specs.declared.link.Link.{Link}

-- Serving continues: however it began, if everything happened as `Hosts` says up to the old sessions and connections, it did so up to
-- the new ones; `counted` gives the number of accepted connections, from that before.
abbrev pub Continues : {W O C : Type 0} → (W → Step → W → Type 0) → (W → ℕ) → (O → Option (List (List ℕ))) → (O → Option (List Closed)) → (C → Option (List ℕ)) → (C → Option (List ℕ)) → (ℕ → ℕ) → O → W → List (Link C) → O → W → List (Link C) → Type 0
Continues {W} {O} Happens next coming closed remaining contents counted outside_old sessions_old links_old outside sessions links =
    (first : O) (start : W) (count : ℕ) → Stands Happens next coming closed remaining contents first start count outside_old sessions_old links_old
    → Stands Happens next coming closed remaining contents first start (counted count) outside sessions links

-- the number of connections with one more, if there is one
abbrev pub with_one : Bool → ℕ → ℕ
with_one one count = if one then count + 1 else count

-- It continues with some more accepted connections: with as many as are wanted, unless it fails.
abbrev pub ContinuesTo : {W O C X E : Type 0} → (W → Step → W → Type 0) → (W → ℕ) → (O → Option (List (List ℕ))) → (O → Option (List Closed)) → (C → Option (List ℕ)) → (C → Option (List ℕ)) → Result X E → ℕ → O → W → List (Link C) → O → W → List (Link C) → Type 0
ContinuesTo {W} {O} Happens next coming closed remaining contents result wanted outside_old sessions_old links_old outside sessions links =
    (first : O) (start : W) (count : ℕ) → Stands Happens next coming closed remaining contents first start count outside_old sessions_old links_old
    → (more : ℕ) × OnOk result (more ≡ wanted) × Stands Happens next coming closed remaining contents first start (count + more) outside sessions links

-- the progress of a connection in memory, as it appears from outside
abbrev pub LinkMoves : {W C : Type 0} → (W → List Step → W → Type 0) → (C → Option (List ℕ)) → (C → Option (List ℕ)) → W → W → Link C → Link C → Type 0
LinkMoves Plays remaining contents old new was now = Moves Plays old new (seen_by remaining contents was) (seen_by remaining contents now)

-- a connection whose session was just opened, with the bytes of its input and those that it took, if they are known
abbrev pub opened_link : ℕ → Option (List ℕ) → Option (List ℕ) → Seen
opened_link session left taken = record { session = session; left = left; taken = taken; unsent = []; pending = []; closing = None }
