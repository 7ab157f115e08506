-- Worlds stay sound, by the law of each step.
use Rattle.std.proofs.Common.{◌≡◌, ℕ, zero, suc, ◌+◌, ◌<◌, ◌≤◌, eqb, List, [], ◌∷◌, ◌++◌, length, get_or, take, Option, Some, None, Result, Ok, Err, refl, sym, subst, arith, lit≤, inl, inr}
use Rattle.std.specs.List.{AllByRecursion}
use Rattle.std.proofs.lemmas.Bool.{cases_Bool}
use Rattle.dv_value.specs.declared.fault.BsonFault.{BsonFault}
use Rattle.dv_value.specs.Tree.{Field}
use Rattle.dv_value.specs.Spelling.{Spells, Fits, IsBytes, payload, fields_spelling, framed}
use Rattle.dv_bson.specs.Reading.{document_at}
use Rattle.dv_value.specs.Results.{◌>>=◌}
use Rattle.dv_command.specs.declared.command.Command.{Command}
use Rattle.dv_core.specs.declared.outcome.Outcome.{Outcome}
use Rattle.dv_core.specs.State.{State}
use Rattle.dv_core.specs.Step.{MemoryStep, end_session}
use Rattle.dv_core.specs.Sound.{IsSoundDocument, IsSound, IsSoundCommand}
use Rattle.dv_message.specs.declared.fault.CloseFault.TheVariants.{NoMemory}
use Rattle.dv_wire.specs.declared.hub.Fed.{Fed}
use Rattle.dv_wire.specs.declared.hub.SessionId.{SessionId}
use Rattle.dv_message.specs.Bytes.{BringsBytes, BringBytes, KeepsBytes, IsByteSplit}
use Rattle.dv_message.specs.Sections.{Section, body, named}
use Rattle.dv_message.specs.Commands.{fields_in, each_read, SectionRead, read_body, read_list, section_read, body_among, lists_among, read_in, command_from, command_of}
use Rattle.dv_message.specs.Message.{Message, Conversation, reading, closed, Split, split}
use Rattle.dv_wire.specs.Schedule.{Run, World, world_of, conversation_of, with_conversation, sessions_but, bytes_to, CarriesOutMessages, TakesSplit, takes_all, takes_some, Hears, Opens, Feeds, end}
use Rattle.dv_wire.specs.Sound.{IsSoundWorld}
use Rattle.dv_wire.proofs.Fronts as laws
use Rattle.dv_wire.proofs.Runs.{follows_cases}

-- ---- reading

-- what is read is encoded in the bytes, and is within the limits
abbrev pub ReadsSpelled : Type 0
ReadsSpelled = (bytes : List ℕ) (document : List Field) (count : ℕ) → IsBytes bytes → document_at bytes ≡ Ok (document, count) → (count ≤ length bytes) × Spells document (take count bytes) × Fits document

-- so it is sound
abbrev pub ReadsSound : Type 0
ReadsSound = (bytes : List ℕ) (document : List Field) (count : ℕ) → IsBytes bytes → document_at bytes ≡ Ok (document, count) → IsSoundDocument document

pub spelled_sound : ReadsSpelled → ReadsSound
spelled_sound reads bytes document count h e = let read = reads bytes document count h e in record { valid = read.1.valid; fits = read.2 }

-- ---- what messages contain

cons_bytes : (b : ℕ) (bytes : List ℕ) → b < 256 → IsBytes bytes → (i : ℕ) → get_or (b ∷ bytes) i 0 < 256
cons_bytes b bytes lt h zero = lt
cons_bytes b bytes lt h (suc i) = h i

both_bytes : (kept piece : List ℕ) → IsBytes kept → IsBytes piece → IsBytes (kept ++ piece)
both_bytes [] piece h k = k
both_bytes (b ∷ kept) piece h k = cons_bytes b (kept ++ piece) (h 0) (both_bytes kept piece (λ i. h (suc i)) k)

BringBytes-take : (n : ℕ) (messages : List Message) → BringBytes messages → BringBytes (take n messages)
BringBytes-take zero messages h = tt
BringBytes-take (suc n) [] h = tt
BringBytes-take (suc n) (message ∷ messages) h = (h.0, BringBytes-take n messages h.1)

-- ---- steps and runs

abbrev StaysSound : Type 0
StaysSound = (old new : State) (session : ℕ) (command : Command) (outcome : Outcome) → IsSoundCommand command → IsSound old → MemoryStep old session command outcome new → IsSound new

record IsSoundRun (run : Run) : Type 0 where
  state : IsSound run.state
  keeps : KeepsBytes run.conversation

abbrev IsSoundlyBrought : SectionRead → Type 0
IsSoundlyBrought (read_body fields) = IsSoundDocument fields
IsSoundlyBrought (read_list name documents) = AllByRecursion IsSoundDocument documents

nothing_sound : IsSoundDocument []
unfolding payload fields_spelling framed
nothing_sound = record { valid = tt; fits = record { size = lit≤ tt; depth = lit≤ tt } }

body_sound : (before : List Field) (brought : List SectionRead) → IsSoundDocument before → AllByRecursion IsSoundlyBrought brought → IsSoundDocument (body_among before brought)
body_sound before [] sound all = sound
body_sound before (read_body fields ∷ others) sound all = body_sound fields others all.0 all.1
body_sound before (read_list name documents ∷ others) sound all = body_sound before others sound all.1

lists_sound : (brought : List SectionRead) → AllByRecursion IsSoundlyBrought brought → AllByRecursion (λ list. AllByRecursion IsSoundDocument list.1) (lists_among brought)
lists_sound [] all = tt
lists_sound (read_body fields ∷ others) all = lists_sound others all.1
lists_sound (read_list name documents ∷ others) all = (all.0, lists_sound others all.1)

-- the first is read, and the others
first_read : {A : Type 0} (x : Result A BsonFault) (xs : Result (List A) BsonFault) (all : List A) → (x >>= λ y. xs >>= λ ys. Ok (y ∷ ys)) ≡ Ok all
    → (y : A) × (ys : List A) × (x ≡ Ok y) × (xs ≡ Ok ys) × (y ∷ ys ≡ all)
first_read (Err e) xs all both = absurd cc
first_read (Ok y) (Err e) all both = absurd cc
first_read (Ok y) (Ok ys) all both = (y, ys, refl, refl, cc)

-- what holds of each that is read
each_sound : {A B : Type 0} (P : A → Type 0) (Q : B → Type 0) (f : A → Result B BsonFault) → ((x : A) (y : B) → P x → f x ≡ Ok y → Q y) → (xs : List A) (ys : List B) → AllByRecursion P xs → each_read f xs ≡ Ok ys → AllByRecursion Q ys
each_sound P Q f sound [] ys all e = let none : [] ≡ ys = cc in subst (AllByRecursion Q) none tt
each_sound P Q f sound (x ∷ xs) ys all e =
    let (first, others, is, are, both) = first_read (f x) (each_read f xs) ys e in
    subst (AllByRecursion Q) both (sound x first all.0 is, each_sound P Q f sound xs others all.1 are)

module _ (bring : laws.BringBytes) (reads : ReadsSound) (stays : StaysSound) where
  fields_by : (bytes : List ℕ) (read : Result (List Field × ℕ) BsonFault) (fields : List Field) → IsBytes bytes → document_at bytes ≡ read → (read >>= λ found. Ok found.0) ≡ Ok fields → IsSoundDocument fields
  fields_by bytes (Ok (found, count)) fields h is e = let same : found ≡ fields = cc in subst IsSoundDocument same (reads bytes found count h is)
  fields_by bytes (Err fault) fields h is e = absurd cc

  fields_sound : (bytes : List ℕ) (fields : List Field) → IsBytes bytes → fields_in bytes ≡ Ok fields → IsSoundDocument fields
  fields_sound bytes fields h e = fields_by bytes (document_at bytes) fields h refl e

  body_by : (read : Result (List Field) BsonFault) (brought : SectionRead) → ((fields : List Field) → read ≡ Ok fields → IsSoundDocument fields) → (read >>= λ fields. Ok (read_body fields)) ≡ Ok brought → IsSoundlyBrought brought
  body_by (Ok fields) brought sound e = let same : read_body fields ≡ brought = cc in subst IsSoundlyBrought same (sound fields refl)
  body_by (Err fault) brought sound e = absurd cc

  list_by : (name : List ℕ) (read : Result (List (List Field)) BsonFault) (brought : SectionRead) → ((all : List (List Field)) → read ≡ Ok all → AllByRecursion IsSoundDocument all)
      → (read >>= λ all. Ok (read_list name all)) ≡ Ok brought → IsSoundlyBrought brought
  list_by name (Ok all) brought sound e = let same : read_list name all ≡ brought = cc in subst IsSoundlyBrought same (sound all refl)
  list_by name (Err fault) brought sound e = absurd cc

  brought_sound : (section : Section) (brought : SectionRead) → BringsBytes section → section_read section ≡ Ok brought → IsSoundlyBrought brought
  brought_sound (body document) brought h e = body_by (fields_in document) brought (λ fields is. fields_sound document fields h is) e
  brought_sound (named name documents) brought h e =
      list_by name (each_read fields_in documents) brought (λ all are. each_sound IsBytes IsSoundDocument fields_in fields_sound documents all h are) e

  command_by : (read : Result (List SectionRead) BsonFault) → ((brought : List SectionRead) → read ≡ Ok brought → AllByRecursion IsSoundlyBrought brought)
      → IsSoundCommand (command_from (read >>= λ brought. Ok (body_among [] brought, lists_among brought)))
  command_by (Ok brought) sound = (body_sound [] brought nothing_sound (sound brought refl), lists_sound brought (sound brought refl))
  command_by (Err fault) sound = tt

  command_sound : (sections : List Section) → AllByRecursion BringsBytes sections → IsSoundCommand (command_from (read_in sections))
  command_sound sections h = command_by (each_read section_read sections) (λ brought are. each_sound BringsBytes IsSoundlyBrought section_read brought_sound sections brought h are)

  carries_sound : (session : ℕ) (old : State) (messages : List Message) (conversation : Conversation) (run : Run) → IsSound old → BringBytes messages → KeepsBytes conversation
      → CarriesOutMessages session old messages conversation run → IsSoundRun run
  carries_sound session old [] conversation run sound bytes keeps h = subst IsSoundRun (sym h) (record { state = sound; keeps = keeps })
  carries_sound session old (message ∷ messages) conversation run sound bytes keeps (outcome, mid, steps, follows) =
      let behind = stays old mid session (command_of message) outcome (command_sound message.sections bytes.0) sound steps in
      elim (follows_cases (bytes_to message outcome) mid (CarriesOutMessages session mid messages conversation) run follows) [
        | inl shut ↦ subst IsSoundRun (sym shut) (record { state = behind; keeps = tt })
        | inr a ↦
            let others = carries_sound session mid messages conversation a.others behind bytes.1 keeps a.behind in
            subst IsSoundRun (sym a.both) (record { state = others.state; keeps = others.keeps })
      ]

  takes_sound : (session : ℕ) (old : State) (s : Split) (run : Run) → IsSound old → IsByteSplit s → TakesSplit session old s run → IsSoundRun run
  takes_sound session old s run sound bytes (takes_all carried) = carries_sound session old s.messages s.conversation run sound bytes.bring bytes.keeps carried
  takes_sound session old s run sound bytes (takes_some count carried) =
      carries_sound session old (take count s.messages) (closed NoMemory) run sound (BringBytes-take count s.messages bytes.bring) tt carried

  hears_sound : (session : ℕ) (old : State) (before : Conversation) (piece : List ℕ) (run : Run) → IsSound old → KeepsBytes before → IsBytes piece → Hears session old before piece run → IsSoundRun run
  hears_sound session old (reading kept) piece run sound keeps h hears = takes_sound session old (split (kept ++ piece)) run sound (bring (kept ++ piece) (both_bytes kept piece keeps h)) hears
  hears_sound session old (closed fault) piece run sound keeps h hears = subst IsSoundRun (sym hears) (record { state = sound; keeps = tt })

-- ---- worlds

abbrev KeepBytes : List (ℕ × Conversation) → Type 0
KeepBytes ss = AllByRecursion (λ s. KeepsBytes s.1) ss

KeepBytes-append : (ss : List (ℕ × Conversation)) (s : ℕ × Conversation) → KeepBytes ss → KeepsBytes s.1 → KeepBytes (ss ++ s ∷ [])
KeepBytes-append [] s keeping keeps = (keeps, tt)
KeepBytes-append (t ∷ ss) s keeping keeps = (keeping.0, KeepBytes-append ss s keeping.1 keeps)

KeepBytes-with : (session : ℕ) (now : Conversation) (ss : List (ℕ × Conversation)) → KeepBytes ss → KeepsBytes now → KeepBytes (with_conversation session now ss)
KeepBytes-with session now [] keeping keeps = tt
KeepBytes-with session now (s ∷ ss) keeping keeps =
    elim (cases_Bool (eqb s.0 session)) [ inl here ↦ rw here (keeps, keeping.1) | inr past ↦ rw past (keeping.0, KeepBytes-with session now ss keeping.1 keeps) ]

KeepBytes-but : (session : ℕ) (ss : List (ℕ × Conversation)) → KeepBytes ss → KeepBytes (sessions_but session ss)
KeepBytes-but session [] keeping = tt
KeepBytes-but session (s ∷ ss) keeping =
    elim (cases_Bool (eqb s.0 session)) [ inl here ↦ rw here keeping.1 | inr past ↦ rw past (keeping.0, KeepBytes-but session ss keeping.1) ]

conversation_keeps : (session : ℕ) (ss : List (ℕ × Conversation)) (before : Conversation) → KeepBytes ss → conversation_of session ss ≡ Some before → KeepsBytes before
conversation_keeps session [] before keeping e = absurd cc
conversation_keeps session (s ∷ ss) before keeping e =
    elim (cases_Bool (eqb s.0 session)) [
      | inl here ↦ let same : s.1 ≡ before = (let found : Some s.1 ≡ Some before = rw here at e in cc) in subst KeepsBytes same keeping.0
      | inr past ↦ conversation_keeps session ss before keeping.1 (rw past at e)
    ]

pub first_sound : (state : State) → IsSound state → IsSoundWorld (world_of state)
first_sound state sound = record { state = sound; keeping = tt }

pub opened_sound : (old new : World) (id : SessionId) → IsSoundWorld old → Opens old (Ok id) new → IsSoundWorld new
opened_sound old new id sound opens =
    subst IsSoundWorld (sym opens.3) (record { state = sound.state; keeping = KeepBytes-append old.sessions (old.next, reading []) sound.keeping (λ i. omega arith) })

-- what the end of a session leaves
abbrev pub EndsSound : Type 0
EndsSound = (session : ℕ) (state : State) → IsSound state → IsSound (end_session session state)

pub ended_sound : EndsSound → (old : World) (session : ℕ) → IsSoundWorld old → IsSoundWorld (end session old)
ended_sound ends old session sound = record { state = ends session old.state sound.state; keeping = KeepBytes-but session old.sessions sound.keeping }

module _ (bring : laws.BringBytes) (stays : StaysSound) (reads : ReadsSound) (old new : World) (session : ℕ) (piece bytes : List ℕ) (answer : Fed) where
  fed_sound_by : (here : Option Conversation) → conversation_of session old.sessions ≡ here → IsSoundWorld old → IsBytes piece → Feeds old session piece bytes answer new → IsSoundWorld new
  fed_sound_by None e sound h feeds = let (answers, is, nothing) = rw e at feeds in subst IsSoundWorld (sym nothing.2) sound
  fed_sound_by (Some before) e sound h feeds =
      let (answers, is, (run, hears, are, told, world)) = rw e at feeds in
      let behind = hears_sound bring reads stays session old.state before piece run sound.state (conversation_keeps session old.sessions before sound.keeping e) h hears in
      subst IsSoundWorld (sym world) (record { state = behind.state; keeping = KeepBytes-with session run.conversation old.sessions sound.keeping behind.keeps })

  pub fed_sound : IsSoundWorld old → IsBytes piece → Feeds old session piece bytes answer new → IsSoundWorld new
  fed_sound = fed_sound_by (conversation_of session old.sessions) refl
