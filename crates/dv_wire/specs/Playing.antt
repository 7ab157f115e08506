-- Schedules: events of any sessions, one after the other, and what is reported of each.
use Rattle.std.specs.Prelude.{◌≡◌, ℕ, List, [], ◌∷◌, ◌++◌, Some, Ok}
use Rattle.dv_wire.specs.declared.events.Event.{Event}
use Rattle.dv_wire.specs.declared.events.Event.TheVariants as events
use Rattle.dv_wire.specs.declared.events.Said.{Said}
use Rattle.dv_wire.specs.declared.events.Said.TheVariants as said
use Rattle.dv_wire.specs.declared.hub.Fed.{Fed}
use Rattle.dv_wire.specs.declared.hub.SessionId.{SessionId}
use Rattle.dv_core.specs.Step.{MemoryStep}
use Rattle.dv_wire.specs.Schedule.{Run, SessionSteps, World, bytes_of, conversation_of, Opens, FeedsBy, fed_of, unfinished_in, end}

-- an event happens: what is reported of it, and the world after it; messages are carried out by these steps
abbrev pub HappensBy : SessionSteps → World → Event → Said → World → Type 0
HappensBy Step old events.Open (said.Opened result) new = Opens old result new
HappensBy Step old (events.Piece session piece) (said.Fed told bytes) new = FeedsBy Step old session.number piece bytes told new
HappensBy Step old (events.End session) (said.Ended unfinished) new = (unfinished ≡ unfinished_in (conversation_of session.number old.sessions)) × (new ≡ end session.number old)
HappensBy Step old event other new = ⊥

-- an event happens, and messages are carried out by steps of the reference machine
abbrev pub Happens : World → Event → Said → World → Type 0
Happens = HappensBy MemoryStep

-- events happen in order: what is reported of them, and the world after them; messages are carried out by these steps
abbrev pub PlaysBy : SessionSteps → World → List Event → List Said → World → Type 0
PlaysBy Step old [] all new = (all ≡ []) × (new ≡ old)
PlaysBy Step old (event ∷ events) all new =
    (first : Said) × (others : List Said) × (mid : World) × (all ≡ first ∷ others) × HappensBy Step old event first mid × PlaysBy Step mid events others new

-- events happen in order, and messages are carried out by steps of the reference machine: what is reported of the events, and the world
-- after them
abbrev pub Plays : World → List Event → List Said → World → Type 0
Plays = PlaysBy MemoryStep

-- one schedule happens and then another one, and this is all that is reported
abbrev pub PlaysInTurn : World → List Event → List Event → List Said → World → Type 0
PlaysInTurn old first second all new =
    (one : List Said) × (two : List Said) × (mid : World) × (all ≡ one ++ two) × Plays old first one mid × Plays mid second two new

-- ---- a piece that may be cut

-- a piece of a session's bytes in a schedule, in two parts: the events before and after it, and what is reported of these and of the
-- piece
pub record CutPiece : Type 0 where
  pub before : List Event
  pub session : SessionId
  pub piece : List ℕ
  pub more : List ℕ
  pub after : List Event
  -- what is reported of the events before it
  pub answers : List Said
  -- what is reported of the whole piece
  pub told : Fed
  pub bytes : List ℕ
  -- what is reported of the events after it
  pub behind : List Said

-- the schedule happens with the piece as a whole
abbrev pub ComesWhole : World → CutPiece → World → Type 0
ComesWhole old cut new =
    Plays old (cut.before ++ events.Piece cut.session (cut.piece ++ cut.more) ∷ cut.after) (cut.answers ++ said.Fed cut.told cut.bytes ∷ cut.behind) new

-- the same schedule, but with the piece in its two parts: its replies come in two parts too, and what is reported of the second part is
-- what was reported of the whole piece
abbrev pub ComesInTwo : World → CutPiece → World → Type 0
ComesInTwo old cut new =
    (first : List ℕ) × (second : List ℕ) × (told_first : Fed) × (cut.bytes ≡ first ++ second)
    × Plays old (cut.before ++ events.Piece cut.session cut.piece ∷ events.Piece cut.session cut.more ∷ cut.after)
    (cut.answers ++ said.Fed told_first first ∷ said.Fed cut.told second ∷ cut.behind) new

-- ---- a whole session

-- the events of a whole session with these bytes: it is opened, its bytes arrive, and it ends
abbrev pub events_of_session : SessionId → List ℕ → List Event
events_of_session session bytes = events.Open ∷ events.Piece session bytes ∷ events.End session ∷ []

-- what is reported of them if its messages lead to this run
abbrev pub said_of_session : SessionId → Run → List Said
said_of_session session run =
    said.Opened (Ok session) ∷ said.Fed (fed_of run.conversation) (bytes_of run) ∷ said.Ended (unfinished_in (Some run.conversation)) ∷ []
