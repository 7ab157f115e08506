-- A piece of a session's bytes, and the same bytes in two pieces.
use Rattle.std.proofs.Common.{◌≡◌, ℕ, suc, ◌+◌, ◌-◌, ◌≤◌, min, List, [], ◌∷◌, ◌++◌, length, take, Option, Some, None, refl, sym, ap, subst, ◌∙◌, append_assoc, zero-add, arith, inl, inr}
use Rattle.std.proofs.lemmas.Bool.{cases_lt, eq-eqb}
use Rattle.std.proofs.lemmas.List.{append-nil, take-append-le, take_min}
use Rattle.std.specs.Prelude.{⊤}
use Rattle.std.specs.List.{concat}
use Rattle.std.proofs.lemmas.List.Folds.{concat-append}
use Rattle.dv_message.specs.declared.fault.CloseFault.{CloseFault}
use Rattle.dv_message.specs.declared.fault.CloseFault.TheVariants.{NoMemory}
use Rattle.dv_wire.specs.declared.hub.Fed.{Fed}
use Rattle.dv_wire.specs.declared.hub.Fed.TheVariants.{Unknown}
use Rattle.dv_core.specs.State.{State}
use Rattle.dv_core.specs.Step.{MemoryStep}
use Rattle.dv_message.specs.Message.{Message, Conversation, reading, closed, Split, split, continuation}
use Rattle.dv_wire.specs.Schedule.{Run, in_front, silence, CarriesOutMessages, TakesSplit, takes_all, takes_some, Hears, fed_of, World, conversation_of, with_conversation, world_behind, plain_run, bytes_of, Feeds, FeedsAll, stream_of}
use Rattle.dv_wire.specs.Inner.View.{GoesOn}
use Rattle.dv_wire.proofs.Runs.{in_front-silence, carries_then, carries_to, carries_cases, carries_all, carries_shut, stops_so, Divides}
use Rattle.dv_wire.proofs.Fronts.{GoOn}
use Rattle.dv_wire.proofs.Replies.{IsAllowed, allows_any, plain_carries}
use Rattle.dv_wire.proofs.Worlds.{conversation_of-with}

take_past : (n : ℕ) (xs ys : List Message) → take (length xs + n) (xs ++ ys) ≡ xs ++ take n ys
take_past n [] ys = rw zero-add refl
take_past n (x ∷ xs) ys = let e : suc (length xs) + n ≡ suc (length xs + n) = omega arith in rw e (ap (λ (ms : List Message). x ∷ ms) (take_past n xs ys))

-- ---- one piece as two

-- a stream is taken, and then the next piece
record TakesTwo (session : ℕ) (old : State) (s : Split) (more : List ℕ) (run : Run) : Type 0 where
  one : Run
  two : Run
  before : TakesSplit session old s one
  behind : Hears session one.state one.conversation more two
  both : run ≡ in_front one.answers two

-- a session that is closed takes no more
hears_nothing : (session : ℕ) (run : Run) (fault : CloseFault) (more : List ℕ) → run.conversation ≡ closed fault → Hears session run.state run.conversation more (silence run.state run.conversation)
hears_nothing session run fault more shut = rw shut refl

module _ (session : ℕ) (old : State) (more : List ℕ) (run : Run) where
  shut_there : (s : Split) (fault : CloseFault) → run.conversation ≡ closed fault → TakesSplit session old s run → TakesTwo session old s more run
  shut_there s fault shut takes =
      record { one = run; two = silence run.state run.conversation; before = takes; behind = hears_nothing session run fault more shut; both = sym (in_front-silence run) }

  goes_behind : (messages others : List Message) (conversation : Conversation) (kept : List ℕ) (d : Divides session old messages others conversation run) → TakesSplit session d.mid (split (kept ++ more)) d.two
      → TakesTwo session old (record { messages = messages; conversation = reading kept }) more run
  goes_behind messages others conversation kept d behind =
      record { one = record { answers = d.answers; state = d.mid; conversation = reading kept }; two = d.two; before = takes_all (carries_to session old d.mid messages d.answers (reading kept) d.before); behind = behind; both = d.both }

  two_of : (messages : List Message) (conversation : Conversation) → TakesSplit session old (continuation (record { messages = messages; conversation = conversation }) more) run
      → TakesTwo session old (record { messages = messages; conversation = conversation }) more run
  two_of messages (closed fault) (takes_all carried) = let shut = carries_shut session old messages fault run carried in shut_there _ shut.0 shut.1 (takes_all carried)
  two_of messages (closed fault) (takes_some count carried) = let shut = carries_shut session old (take count messages) NoMemory run carried in shut_there _ shut.0 shut.1 (takes_some count carried)
  two_of messages (reading kept) (takes_all carried) =
      elim (carries_cases session old messages (split (kept ++ more)).messages (split (kept ++ more)).conversation run carried) [
        | inl stops ↦ shut_there _ NoMemory stops.shut (takes_all (stops_so session old messages run (reading kept) stops))
        | inr d ↦ goes_behind messages (split (kept ++ more)).messages (split (kept ++ more)).conversation kept d (takes_all d.behind)
      ]
  two_of messages (reading kept) (takes_some count carried) =
      let others = (split (kept ++ more)).messages in
      elim (cases_lt count (length messages)) [
        | inl lt ↦
            let some = subst (λ (ms : List Message). CarriesOutMessages session old ms (closed NoMemory) run) (take-append-le count messages others (omega arith)) carried in
            let shut = carries_shut session old (take count messages) NoMemory run some in
            shut_there _ shut.0 shut.1 (takes_some count some)
        | inr le ↦
            let n = count - length messages in
            let past : take count (messages ++ others) ≡ messages ++ take n others =
            (let e : count ≡ length messages + n = omega arith in ap (λ (k : ℕ). take k (messages ++ others)) e) ∙ take_past n messages others in
            elim (carries_cases session old messages (take n others) (closed NoMemory) run (subst (λ (ms : List Message). CarriesOutMessages session old ms (closed NoMemory) run) past carried)) [
              | inl stops ↦ shut_there _ NoMemory stops.shut (takes_all (stops_so session old messages run (reading kept) stops))
              | inr d ↦ goes_behind messages (take n others) (closed NoMemory) kept d (takes_some n d.behind)
            ]
      ]

-- ---- and two as one

-- after the same messages there are others, or none
messages_more : (s : Split) (more : List ℕ) (conversation : Conversation) → s.conversation ≡ conversation → (others : List Message) × ((continuation s more).messages ≡ s.messages ++ others)
messages_more s more (reading kept) e = ((split (kept ++ more)).messages, rw e refl)
messages_more s more (closed fault) e = ([], rw e (sym (append-nil s.messages)))

module _ (session : ℕ) (old : State) (more : List ℕ) where
  -- a session that was closed answers nothing more
  shut_in_front : (s : Split) (one two : Run) (fault : CloseFault) → one.conversation ≡ closed fault → Hears session one.state one.conversation more two → TakesSplit session old s one
      → TakesSplit session old s (in_front one.answers two)
  shut_in_front s one two fault shut hears takes =
      let nothing : two ≡ silence one.state one.conversation = rw shut (rw shut at hears) in
      subst (λ (r : Run). TakesSplit session old s r) (sym (ap (in_front one.answers) nothing ∙ in_front-silence one)) takes

  behind_reading : (messages : List Message) (kept : List ℕ) (answers : List (List ℕ)) (mid : State) (two : Run) → GoesOn session old messages answers mid → TakesSplit session mid (split (kept ++ more)) two
      → TakesSplit session old (continuation (record { messages = messages; conversation = reading kept }) more) (in_front answers two)
  behind_reading messages kept answers mid two before (takes_all behind) =
      takes_all (carries_then session old mid messages (split (kept ++ more)).messages answers (split (kept ++ more)).conversation two before behind)
  behind_reading messages kept answers mid two before (takes_some count behind) =
      takes_some (length messages + count)
      (subst (λ (ms : List Message). CarriesOutMessages session old ms (closed NoMemory) (in_front answers two)) (sym (take_past count messages (split (kept ++ more)).messages))
      (carries_then session old mid messages (take count (split (kept ++ more)).messages) answers (closed NoMemory) two before behind))

  behind_all : (messages : List Message) (conversation : Conversation) (answers : List (List ℕ)) (mid : State) (two : Run) → GoesOn session old messages answers mid → Hears session mid conversation more two
      → TakesSplit session old (continuation (record { messages = messages; conversation = conversation }) more) (in_front answers two)
  behind_all messages (reading kept) answers mid two before hears = behind_reading messages kept answers mid two before hears
  behind_all messages (closed fault) answers mid two before hears =
      let one : Run = record { answers = answers; state = mid; conversation = closed fault } in
      shut_in_front (record { messages = messages; conversation = closed fault }) one two fault refl hears (takes_all (carries_to session old mid messages answers (closed fault) before))

  one_of : (s : Split) (one two : Run) → TakesSplit session old s one → Hears session one.state one.conversation more two → TakesSplit session old (continuation s more) (in_front one.answers two)
  one_of s one two (takes_all carried) hears =
      elim (carries_all session old s.messages s.conversation one carried) [
        | inl stops ↦
            let others = messages_more s more s.conversation refl in
            let so : CarriesOutMessages session old (continuation s more).messages (continuation s more).conversation one =
            subst (λ (ms : List Message). CarriesOutMessages session old ms (continuation s more).conversation one) (sym others.1) (stops.before others.0 (continuation s more).conversation) in
            shut_in_front (continuation s more) one two NoMemory stops.shut hears (takes_all so)
        | inr d ↦
            let is : one ≡ record { answers = d.answers ++ []; state = d.mid; conversation = s.conversation } = d.both ∙ ap (in_front d.answers) d.behind in
            let answers : one.answers ≡ d.answers = ap (λ (r : Run). r.answers) is ∙ append-nil d.answers in
            subst (λ (all : List (List ℕ)). TakesSplit session old (continuation s more) (in_front all two)) (sym answers)
            (behind_all s.messages s.conversation d.answers d.mid two d.before (subst (λ (r : Run). Hears session r.state r.conversation more two) is hears))
      ]
  one_of s one two (takes_some count carried) hears =
      let shut = carries_shut session old (take count s.messages) NoMemory one carried in
      let others = messages_more s more s.conversation refl in
      let n = min count (length s.messages) in
      let le : n ≤ length s.messages = omega arith in
      let same : take n (continuation s more).messages ≡ take count s.messages = ap (take n) others.1 ∙ take-append-le n s.messages others.0 le ∙ take_min count s.messages in
      shut_in_front (continuation s more) one two shut.0 shut.1 hears (takes_some n (subst (λ (ms : List Message). CarriesOutMessages session old ms (closed NoMemory) one) (sym same) carried))

-- ---- one session

record HearsTwo (session : ℕ) (old : State) (before : Conversation) (piece more : List ℕ) (run : Run) : Type 0 where
  one : Run
  two : Run
  first : Hears session old before piece one
  second : Hears session one.state one.conversation more two
  both : run ≡ in_front one.answers two

module _ (go_on : GoOn) where
  cut_at : (kept piece more : List ℕ) → split (kept ++ (piece ++ more)) ≡ continuation (split (kept ++ piece)) more
  cut_at kept piece more = ap split (sym (append_assoc kept piece more)) ∙ go_on (kept ++ piece) more

  hears_two : (session : ℕ) (old : State) (before : Conversation) (piece more : List ℕ) (run : Run) → Hears session old before (piece ++ more) run → HearsTwo session old before piece more run
  hears_two session old (closed fault) piece more run hears =
      record { one = silence old (closed fault); two = silence old (closed fault); first = refl; second = refl; both = hears }
  hears_two session old (reading kept) piece more run hears =
      let s = split (kept ++ piece) in
      let two = two_of session old more run s.messages s.conversation (subst (λ (t : Split). TakesSplit session old t run) (cut_at kept piece more) hears) in
      record { one = two.one; two = two.two; first = two.before; second = two.behind; both = two.both }

  hears_one : (session : ℕ) (old : State) (before : Conversation) (piece more : List ℕ) (run : Run) → HearsTwo session old before piece more run → Hears session old before (piece ++ more) run
  hears_one session old (closed fault) piece more run two =
      let nothing = subst (λ (r : Run). Hears session r.state r.conversation more two.two) two.first two.second in
      two.both ∙ ap (λ (r : Run). in_front r.answers two.two) two.first ∙ nothing
  hears_one session old (reading kept) piece more run two =
      let taken = one_of session old more (split (kept ++ piece)) two.one two.two two.first two.second in
      subst (λ (t : Split). TakesSplit session old t run) (sym (cut_at kept piece more)) (subst (λ (r : Run). TakesSplit session old (continuation (split (kept ++ piece)) more) r) (sym two.both) taken)

  pub hears_joined : (session : ℕ) (old : State) (before : Conversation) (piece more : List ℕ) (one two : Run) → Hears session old before piece one → Hears session one.state one.conversation more two
      → Hears session old before (piece ++ more) (in_front one.answers two)
  hears_joined session old before piece more one two first second =
      hears_one session old before piece more (in_front one.answers two) (record { one = one; two = two; first = first; second = second; both = refl })

-- ---- the world

is_last : (session : ℕ) (ss : List (ℕ × Conversation)) (first now : Conversation) → with_conversation session now (with_conversation session first ss) ≡ with_conversation session now ss
is_last session [] first now = refl
is_last session (s ∷ ss) first now = grind (arith, is_last session ss first now, eq-eqb session session refl)

-- if a session's conversation is replaced twice, the last one stays
pub world_twice : (old : World) (session : ℕ) (one two : Run) → world_behind session two (world_behind session one old) ≡ world_behind session two old
world_twice old session one two =
    ap (λ (ss : List (ℕ × Conversation)). record { state = two.state; next = old.next; sessions = ss }) (is_last session old.sessions one.conversation two.conversation)

parts_same : (bytes first others one two : List ℕ) → bytes ≡ first ++ others → first ≡ one → others ≡ two → bytes ≡ one ++ two
parts_same bytes first others one two both same_one same_two = cc

module _ (go_on : GoOn) where
  feeds_two : (old new : World) (session : ℕ) (piece more bytes : List ℕ) (answer : Fed) (here : Option Conversation) → conversation_of session old.sessions ≡ here
      → Feeds old session (piece ++ more) bytes answer new → FeedsAll old session piece (more ∷ []) bytes answer new
  feeds_two old new session piece more bytes answer None e feeds =
      let (answers, is, nothing) = rw e at feeds in
      ([], [], old, Unknown, is ∙ ap concat nothing.0, ([], refl, rw e (refl, refl, refl)), ([], refl, rw e (refl, nothing.1, nothing.2)))
  feeds_two old new session piece more bytes answer (Some before) e feeds =
      let (answers, is, (run, hears, are, told, world)) = rw e at feeds in
      let two = hears_two go_on session old.state before piece more run hears in
      let between : conversation_of session (world_behind session two.one old).sessions ≡ Some two.one.conversation = conversation_of-with session old.sessions before two.one.conversation e in
      let same = ap (λ (r : Run). r.conversation) two.both in (
        bytes_of two.one,
        bytes_of two.two,
        world_behind session two.one old,
        fed_of two.one.conversation,
        is ∙ ap concat are ∙ ap bytes_of two.both ∙ concat-append two.one.answers two.two.answers,
        (two.one.answers, refl, rw e (two.one, two.first, refl, refl, refl)),
        (two.two.answers, refl, rw between (two.two, two.second, refl, told ∙ ap fed_of same, world ∙ ap (λ (r : Run). world_behind session r old) two.both ∙ sym (world_twice old session two.one two.two))),
      )

  feeds_so : (old new : World) (session : ℕ) (before : Conversation) (piece more bytes : List ℕ) (answer : Fed) (one two : Run) → conversation_of session old.sessions ≡ Some before
      → Hears session old.state before piece one → Hears session one.state one.conversation more two → bytes ≡ bytes_of one ++ bytes_of two → answer ≡ fed_of two.conversation
      → new ≡ world_behind session two (world_behind session one old) → Feeds old session (piece ++ more) bytes answer new
  feeds_so old new session before piece more bytes answer one two e first second are told world =
      let both = in_front one.answers two in
      (both.answers, are ∙ sym (concat-append one.answers two.answers), rw e (both, hears_joined go_on session old.state before piece more one two first second, refl, told, world ∙ world_twice old session one two))

  feeds_one : (old new : World) (session : ℕ) (piece more bytes : List ℕ) (answer : Fed) (here : Option Conversation) → conversation_of session old.sessions ≡ here
      → FeedsAll old session piece (more ∷ []) bytes answer new → Feeds old session (piece ++ more) bytes answer new
  feeds_one old new session piece more bytes answer None e (first, others, mid, told, both, before, behind) =
      let (answers, is, one) = rw e at before in
      let (more_answers, are, two) = rw (one.2, e) at behind in
      ([], parts_same bytes first others [] [] both (is ∙ ap concat one.0) (are ∙ ap concat two.0), rw e (refl, two.1, two.2))
  feeds_one old new session piece more bytes answer (Some before) e (first, others, mid, told, both, feeds, behind) =
      let (answers, is, (one, hears, are, told_one, world)) = rw e at feeds in
      let between : conversation_of session (world_behind session one old).sessions ≡ Some one.conversation = conversation_of-with session old.sessions before one.conversation e in
      let (more_answers, is_more, (two, hears_more, are_more, told_two, world_two)) = rw between at (subst (λ (w : World). Feeds w session more others answer new) world behind) in
      feeds_so old new session before piece more bytes answer one two e hears hears_more (parts_same bytes first others (bytes_of one) (bytes_of two) both (is ∙ ap concat are) (is_more ∙ ap concat are_more)) told_two world_two

  -- ---- any number of pieces

  pub feeds_joined : (old new : World) (session : ℕ) (piece : List ℕ) (pieces : List (List ℕ)) (bytes : List ℕ) (answer : Fed)
      → FeedsAll old session piece pieces bytes answer new → Feeds old session (stream_of piece pieces) bytes answer new
  feeds_joined old new session piece [] bytes answer feeds = feeds
  feeds_joined old new session piece (next ∷ pieces) bytes answer (first, others, mid, told, both, feeds, behind) =
      feeds_one old new session piece (stream_of next pieces) bytes answer (conversation_of session old.sessions) refl
      (first, others, mid, told, both, feeds, feeds_joined mid new session next pieces others answer behind)

  pub feeds_all : (old new : World) (session : ℕ) (piece : List ℕ) (pieces : List (List ℕ)) (bytes : List ℕ) (answer : Fed)
      → Feeds old session (stream_of piece pieces) bytes answer new → FeedsAll old session piece pieces bytes answer new
  feeds_all old new session piece [] bytes answer feeds = feeds
  feeds_all old new session piece (next ∷ pieces) bytes answer feeds =
      let (first, others, mid, told, both, before, behind) = feeds_two old new session piece (stream_of next pieces) bytes answer (conversation_of session old.sessions) refl feeds in
      (first, others, mid, told, both, before, feeds_all mid new session next pieces others answer behind)

  -- the plain run, however its bytes are cut
  pub plain_feeds : IsAllowed → (world : World) (session : ℕ) (kept piece : List ℕ) (pieces : List (List ℕ)) → conversation_of session world.sessions ≡ Some (reading kept) →
      let run = plain_run session world.state (split (kept ++ stream_of piece pieces)) in
      FeedsAll world session piece pieces (bytes_of run) (fed_of run.conversation) (world_behind session run world)
  plain_feeds allowed world session kept piece pieces there =
      let stream = split (kept ++ stream_of piece pieces) in
      let run = plain_run session world.state stream in
      feeds_all world (world_behind session run world) session piece pieces (bytes_of run) (fed_of run.conversation)
      (run.answers, refl, rw there (run, takes_all (plain_carries MemoryStep (λ state. ⊤) (allows_any allowed) session world.state stream.messages stream.conversation tt), refl, refl, refl))
