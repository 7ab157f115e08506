-- The events of a script's lines are what its hub plays.
use Rattle.std.proofs.Common.{◌≡◌, ℕ, Bool, false, List, [], ◌∷◌, ◌++◌, Option, Some, None, Ok, refl, sym, ap, ap₂, subst, ◌∙◌, append_assoc, append-nil, slice_get, inl, inr}
use Rattle.dv_wire.specs.declared.events.Event.{Event}
use Rattle.dv_wire.specs.declared.events.Event.TheVariants as events
use Rattle.dv_wire.specs.declared.events.Said.{Said}
use Rattle.dv_wire.specs.declared.events.Said.TheVariants as said
use Rattle.dv_wire.specs.Playing.{Plays}
use Rattle.dv_wire.specs.Schedule.{Opens, World, conversation_of, unfinished_in}
use Rattle.dv_scripts.specs.Events.{TellsEvents, TellsLines, WritesAll, events_of, opening, piece_of, schedule_of, session_of}
use Rattle.dv_scripts.specs.Script.{BringsFrom, DoesOneLine, DoesLines, EndsSession, Finds, OpenSessions}
use Rattle.dv_words.specs.declared.said.Line.{Line}
use Rattle.dv_words.specs.declared.said.Line.TheVariants.{Skip, Bytes, End}
use Rattle.dv_scripts.specs.declared.sessions.Session.{Session}

abbrev pub Joined : Type 0
Joined = (old mid new : World) (first second : List Event) (one two : List Said) → Plays old first one mid → Plays mid second two new → Plays old (first ++ second) (one ++ two) new

-- events are played, and this is written of them
record Told (old : World) (all : List Event) (new : World) (number : ℕ) (text : List ℕ) : Type 0 where
  said : List Said
  plays : Plays old all said new
  writes : WritesAll number said text

writes_joined : (number : ℕ) (one two : List Said) (first second : List ℕ) → WritesAll number one first → WritesAll number two second → WritesAll number (one ++ two) (first ++ second)
writes_joined number [] two first second nothing writes = subst (λ (t : List ℕ). WritesAll number two (t ++ second)) (sym nothing) writes
writes_joined number (s ∷ one) two first second (a, b, is, here, rest) writes =
    (a, b ++ second, ap (λ (t : List ℕ). t ++ second) is ∙ append_assoc a b second, here, writes_joined number one two b second rest writes)

opens : (old mid : OpenSessions) (number : ℕ) (session : Session) → session.is_closed ≡ false → Opens old.hub (Ok session.id) mid.hub
    → Told old.hub (events.Open ∷ []) mid.hub number [] × (record { id = record { number = old.hub.next }; is_closed = false } ≡ session)
opens old mid number session fresh opened =
    let made : ℕ → Bool → Session = λ n b. record { id = record { number = n }; is_closed = b } in (
      record { said = said.Opened (Ok session.id) ∷ []; plays = (said.Opened (Ok session.id), [], mid.hub, refl, opened, (refl, refl)); writes = ([], [], refl, refl, refl) },
      sym (ap₂ made opened.2 fresh),
    )

finds : (old mid : OpenSessions) (number : ℕ) (session : Session) (found : Option (Option Session)) → slice_get old.sessions number ≡ found → Finds old number session mid
    → Told old.hub (opening found) mid.hub number [] × (session_of old.hub.next found ≡ session)
finds old mid number session found e (inl (there, same)) =
    let here : found ≡ Some (Some session) = sym e ∙ there in
    rw here (record { said = []; plays = (refl, ap (λ (s : OpenSessions). s.hub) same); writes = refl }, refl)
finds old mid number session found e (inr (none, fresh, opened, put)) =
    let here : found ≡ Some None = sym e ∙ none in
    rw here (opens old mid number session fresh opened)

brings : (old new : OpenSessions) (number : ℕ) (session : Session) (bytes text : List ℕ) → BringsFrom old number session bytes text new → Told old.hub (piece_of session bytes) new.hub number text
brings old new number session bytes text (inl (shut, nothing, same)) = rw shut (record { said = []; plays = (refl, ap (λ (s : OpenSessions). s.hub) same); writes = nothing })
brings old new number session bytes text (inr (is_open, (answered, replies, told, feeds, are, wrote, put))) =
    rw is_open (record {
      said = said.Fed told answered ∷ [];
      plays = (said.Fed told answered, [], new.hub, refl, feeds, (refl, refl));
      writes = (text, [], sym (append-nil text), (replies, are, wrote), refl);
    })

ends : (old new : OpenSessions) (number : ℕ) (session : Session) (text : List ℕ) → EndsSession old number session text new → Told old.hub (events.End session.id ∷ []) new.hub number text
ends old new number session text (wrote, same) =
    let dropped : ℕ = unfinished_in (conversation_of session.id.number old.hub.sessions) in
    record {
      said = said.Ended dropped ∷ [];
      plays = (said.Ended dropped, [], new.hub, refl, (refl, ap (λ (s : OpenSessions). s.hub) same), (refl, refl));
      writes = (text, [], sym (append-nil text), wrote, refl);
    }

module _ (joined : Joined) where
  -- after an opening, if there is one, the events of the session that is open then
  behind : (old mid : OpenSessions) (new : World) (number : ℕ) (session : Session) (events_by : Session → List Event) (text : List ℕ) → Finds old number session mid → Told mid.hub (events_by session) new number text
      → (all : List Said) × Plays old.hub (opening (slice_get old.sessions number) ++ events_by (session_of old.hub.next (slice_get old.sessions number))) all new × WritesAll number all text
  behind old mid new number session events_by text found told =
      let there = session_of old.hub.next (slice_get old.sessions number) in
      let (first, same) = finds old mid number session (slice_get old.sessions number) refl found in
      let plays = subst (λ (s : Session). Plays mid.hub (events_by s) told.said new) (sym same) told.plays in (
        first.said ++ told.said,
        joined old.hub mid.hub new (opening (slice_get old.sessions number)) (events_by there) first.said told.said first.plays plays,
        writes_joined number first.said told.said [] text first.writes told.writes,
      )

  pub line_plays : (old new : OpenSessions) (line : Line) (text : List ℕ) → DoesOneLine old line text new → (all : List Said) × Plays old.hub (events_of old line) all new.hub × TellsEvents line all text
  line_plays old new Skip text (nothing, same) = ([], (refl, ap (λ (s : OpenSessions). s.hub) same), nothing)
  line_plays old new (Bytes number bytes) text (session, mid, found, brought) = behind old mid new.hub number session (λ s. piece_of s bytes) text found (brings mid new number session bytes text brought)
  line_plays old new (End number) text (session, mid, found, ended) = behind old mid new.hub number session (λ s. events.End s.id ∷ []) text found (ends mid new number session text ended)

  pub lines_play : (old new : OpenSessions) (lines : List (List ℕ)) (text : List ℕ) → (done : DoesLines old lines text new)
      → (all : List Said) × Plays old.hub (schedule_of old new lines text done) all new.hub × TellsLines old new lines text done all
  lines_play old new [] text (nothing, same) = ([], (refl, ap (λ (s : OpenSessions). s.hub) same), (refl, nothing))
  lines_play old new (line ∷ lines) text (mid, first, others, (meant, is, does), rest, both) =
      let (one, plays, told) = line_plays old mid meant first does in
      let (two, plays_rest, told_rest) = lines_play mid new lines others rest in (
        one ++ two,
        joined old.hub mid.hub new.hub (events_of old meant) (schedule_of mid new lines others rest) one two plays plays_rest,
        (one, two, refl, told, told_rest, both),
      )
