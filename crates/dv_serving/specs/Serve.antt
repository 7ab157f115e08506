-- Serving connections one after the other, and what is printed.
use Rattle.std.specs.Prelude.{◌≡◌, ℕ, ◌+◌, List, [], ◌∷◌, ◌++◌, length, codes, Bool, true, false, Option, Some, None, Result, Ok, Err, ⊤}
use Rattle.std.specs.Fmt.{decimal}
use Rattle.std.specs.Io.KnownBytes.{Appends}
use Rattle.dv_host.specs.Outside.{Accepts, HasTaken}
use Rattle.dv_streams.specs.Stream.{MoreBy}
use Rattle.dv_message.specs.Fault.{close_number}
use Rattle.dv_wire.specs.Schedule.{World}
use Rattle.dv_wire.specs.Service.{ComesTo}
use Rattle.dv_message.specs.declared.fault.CloseFault.{CloseFault}
use Rattle.dv_wire.specs.declared.fault.RunFault.{RunFault}
use Rattle.dv_wire.specs.declared.service.Done.{Done}
use Rattle.dv_serving.specs.declared.serve.ServeFault.{ServeFault}
use Rattle.dv_serving.specs.declared.serve.ServeFault.TheVariants.{Accept, Write}

-- ---- lines

-- the line of a connection that has ended, or was closed by a fault
abbrev pub ended_line : ℕ → Option CloseFault → List ℕ
ended_line number None = codes "connection " ++ decimal number ++ codes " ended\n"
ended_line number (Some fault) = codes "connection " ++ decimal number ++ codes " closed " ++ decimal (close_number fault) ++ codes "\n"

-- the line of a connection
abbrev pub connection_line : ℕ → Result Done RunFault → List ℕ
connection_line number (Ok done) = ended_line number done.closing
connection_line number (Err fault) = codes "connection " ++ decimal number ++ codes " failed\n"

-- ---- connections

-- a closed connection: the bytes of its input that were left, and the bytes that its output took, if they are known
pub record Ended : Type 0 where
  pub left : Option (List ℕ)
  pub taken : Option (List ℕ)

-- the bytes of a connection's input, those that were left when it was closed, and the bytes that its output had taken by then; each if
-- it is known
pub record Connection : Type 0 where
  pub input : Option (List ℕ)
  pub left : Option (List ℕ)
  pub taken : Option (List ℕ)

-- the output has taken nothing yet; this is known if the outputs of closed connections are
abbrev pub IsFresh : Option (List Ended) → Option (List ℕ) → Type 0
IsFresh None taken = HasTaken taken []
IsFresh (Some closed) taken = taken ≡ Some []

-- one more connection is closed, with these bytes left and taken
abbrev pub ClosesConnection : Option (List Ended) → Option (List ℕ) → Option (List ℕ) → Option (List Ended) → Type 0
ClosesConnection None left taken new = ⊤
ClosesConnection (Some before) left taken new = new ≡ Some (before ++ record { left = left; taken = taken } ∷ [])

-- connections arrive, one after the other
abbrev pub Come : Option (List (List ℕ)) → List Connection → Option (List (List ℕ)) → Type 0
Come old [] new = new ≡ old
Come old (next ∷ others) new = (mid : Option (List (List ℕ))) × Accepts old next.input mid × Come mid others new

-- connections are closed, one after the other
abbrev pub Close : Option (List Ended) → List Connection → Option (List Ended) → Type 0
Close old [] new = new ≡ old
Close old (next ∷ others) new = (mid : Option (List Ended)) × ClosesConnection old next.left next.taken mid × Close mid others new

-- the session of a connection: its result, the first bytes of its replies, which were passed to the output, and what the output took,
-- if it is known
pub record HasSession (connection : Connection) (old : World) (told : Result Done RunFault) (new : World) : Type 0 where
  pub given : List ℕ
  pub comes : ComesTo told old new connection.input connection.left (Some []) (Some given)
  pub taken : HasTaken connection.taken given

-- connections have their sessions one after the other, and a line is printed for each; the first has this number
abbrev pub ServesEach : ℕ → List Connection → World → List ℕ → World → Type 0
ServesEach number [] old text new = (text ≡ []) × (new ≡ old)
ServesEach number (next ∷ others) old text new =
    (told : Result Done RunFault) × (mid : World) × (behind : List ℕ) × HasSession next old told mid
    × ServesEach (number + 1) others mid behind new × (text ≡ connection_line number told ++ behind)

-- this number of connections arrive, are served and are closed, and this text is printed
pub record Served (count : ℕ) (coming_old coming_new : Option (List (List ℕ))) (closed_old closed_new : Option (List Ended)) (old : World) (text : List ℕ) (new : World) : Type 0 where
  pub connections : List Connection
  pub counted : length connections ≡ count
  pub come : Come coming_old connections coming_new
  pub close : Close closed_old connections closed_new
  pub each : ServesEach 1 connections old text new

-- this number of connections arrive, are served and are closed, and the line of each is printed and flushed
abbrev pub ServesAndTells : {L W : Type 0} → (L → Option (List (List ℕ))) → (L → Option (List Ended)) → (W → Option (List ℕ)) → (W → ℕ) → ℕ → L → W → World → L → W → World → Type 0
ServesAndTells coming closed contents flushes count listener_old writer_old old listener_new writer_new new =
    (text : List ℕ) × Served count (coming listener_old) (coming listener_new) (closed listener_old) (closed listener_new) old text new
    × Appends (contents writer_old) (contents writer_new) text × MoreBy count (flushes writer_old) (flushes writer_new)

-- one connection more is served, and as many flushes succeed as there were connections before; what the writer then has isn't said
abbrev pub ServesOneMore : {L W : Type 0} → (L → Option (List (List ℕ))) → (L → Option (List Ended)) → (W → ℕ) → ℕ → L → W → World → L → W → World → Type 0
ServesOneMore coming closed flushes count listener_old writer_old old listener_new writer_new new =
    (text : List ℕ) × Served (count + 1) (coming listener_old) (coming listener_new) (closed listener_old) (closed listener_new) old text new
    × MoreBy count (flushes writer_old) (flushes writer_new)

-- whether accepting a connection failed
abbrev pub accept_failed : ServeFault → Bool
accept_failed Accept = true
accept_failed Write = false

-- whether printing failed
abbrev pub serve_write_failed : ServeFault → Bool
serve_write_failed Accept = false
serve_write_failed Write = true
