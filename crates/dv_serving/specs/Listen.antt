-- Serving many connections at once, and what is printed.
use Rattle.std.specs.Prelude.{◌≡◌, ◌⊎◌, ℕ, List, ◌++◌, codes, Bool, true, false, Option, Result, OnOk}
use Rattle.std.specs.Fmt.{decimal}
use Rattle.dv_host.specs.Host.{Served}
use Rattle.dv_host.specs.Outside.{Closed}
use Rattle.dv_host.specs.Schedule.{HappensBy, PlaysBy, answers as answers_of}
use Rattle.dv_host.specs.declared.link.Fate.{Fate}
use Rattle.dv_host.specs.declared.link.Fate.TheVariants as fates
use Rattle.dv_wire.specs.Hosted.{EndsAs, FeedsAs, OpensAs, events_of}
use Rattle.dv_wire.specs.Order.{answers}
use Rattle.dv_wire.specs.Playing.{Plays}
use Rattle.dv_wire.specs.Schedule.{World}
use Rattle.dv_streams.specs.Stream.{once_more}
use Rattle.dv_wire.specs.declared.events.Said.{Said}

-- the line of a connection that has ended
abbrev pub fate_line : ℕ → Fate → List ℕ
fate_line number fates.Ended = codes "connection " ++ decimal number ++ codes " ended\n"
fate_line number (fates.Closed fault) = codes "connection " ++ decimal number ++ codes " closed " ++ decimal fault ++ codes "\n"
fate_line number fates.Full = codes "connection " ++ decimal number ++ codes " closed 6\n"
fate_line number fates.Failed = codes "connection " ++ decimal number ++ codes " failed\n"

-- whether a line could not be printed is remembered; it changes only if the writer fails
abbrev pub FailsTelling : Bool → Bool → ℕ → ℕ → Type 0
FailsTelling old false failures_old failures_new = (old ≡ false) × (failures_new ≡ failures_old)
FailsTelling old true failures_old failures_new = (old ≡ true) ⊎ (failures_new ≡ once_more failures_old)

-- Connections arrived and were served, all of them if nothing failed. What happened to the hub is a schedule of events, and its replies
-- to each session are those of which its connection took the first bytes.
abbrev pub Listened : {E : Type 0} → Result Unit E → ℕ → Option (List (List ℕ)) → Option (List (List ℕ)) → Option (List Closed) → Option (List Closed) → World → World → Type 0
Listened result connections coming_old coming_new closed_old closed_new old new =
    (count : ℕ) × OnOk result (count ≡ connections)
    × (served : Served (PlaysBy (HappensBy OpensAs FeedsAs EndsAs)) coming_old coming_new closed_old closed_new old new count)
    × (said : List Said) × Plays old (events_of served.steps) said new × ((session : ℕ) → answers session (events_of served.steps) said ≡ answers_of session served.steps)
