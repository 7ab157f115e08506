-- Messages carried out in order: one list, and then another.
use Rattle.std.proofs.Common.{◌≡◌, ℕ, ◌⊎◌, List, [], ◌∷◌, ◌++◌, Option, Some, None, refl, sym, ap, subst, ◌∙◌, append_assoc, inl, inr}
use Rattle.std.proofs.lemmas.List.{append-nil}
use Rattle.dv_message.specs.declared.fault.CloseFault.{CloseFault}
use Rattle.dv_message.specs.declared.fault.CloseFault.TheVariants.{NoMemory}
use Rattle.dv_core.specs.State.{State}
use Rattle.dv_message.specs.Message.{Message, Conversation, reading, closed}
use Rattle.dv_wire.specs.Schedule.{Run, in_front, silence, unanswered, bytes_to, Follows, CarriesOutMessages}
use Rattle.dv_wire.specs.Inner.View.{GoesOn}

pub in_front_twice : (one two : List (List ℕ)) (run : Run) → in_front (one ++ two) run ≡ in_front one (in_front two run)
in_front_twice one two run = ap (λ (all : List (List ℕ)). record { answers = all; state = run.state; conversation = run.conversation }) (append_assoc one two run.answers)

-- a run after which nothing more is answered
pub in_front-silence : (run : Run) → in_front run.answers (silence run.state run.conversation) ≡ run
in_front-silence run = ap (λ (all : List (List ℕ)). record { answers = all; state = run.state; conversation = run.conversation }) (append-nil run.answers)

-- ---- after one step

pub follows_shut : (answer : Option (List ℕ)) (state : State) (Others : Run → Type 0) (run : Run) → run ≡ unanswered state (closed NoMemory) → Follows answer state Others run
follows_shut None state Others run shut = shut
follows_shut (Some bytes) state Others run shut = inr shut

pub follows_on : (answer : Option (List ℕ)) (state : State) (Others : Run → Type 0) (bytes : List ℕ) (others run : Run) → answer ≡ Some bytes → Others others → run ≡ in_front (bytes ∷ []) others
    → Follows answer state Others run
follows_on answer state Others bytes others run is behind e = subst (λ (a : Option (List ℕ)). Follows a state Others run) (sym is) (inl (others, behind, e))

-- an answer, and then the others
pub record Answers (answer : Option (List ℕ)) (Others : Run → Type 0) (run : Run) : Type 0 where
  pub bytes : List ℕ
  pub others : Run
  pub is : answer ≡ Some bytes
  pub behind : Others others
  pub both : run ≡ in_front (bytes ∷ []) others

pub follows_cases : (answer : Option (List ℕ)) (state : State) (Others : Run → Type 0) (run : Run) → Follows answer state Others run → (run ≡ unanswered state (closed NoMemory)) ⊎ Answers answer Others run
follows_cases None state Others run follows = inl follows
follows_cases (Some bytes) state Others run (inl (others, behind, both)) = inr (record { bytes = bytes; others = others; is = refl; behind = behind; both = both })
follows_cases (Some bytes) state Others run (inr shut) = inl shut

-- ---- a session that is closed among its messages

-- the session is closed, whatever other messages follow, and whatever its conversation after them would be
pub record Stops (session : ℕ) (old : State) (messages : List Message) (run : Run) : Type 0 where
  pub shut : run.conversation ≡ closed NoMemory
  pub before : (others : List Message) (conversation : Conversation) → CarriesOutMessages session old (messages ++ others) conversation run

pub stops_so : (session : ℕ) (old : State) (messages : List Message) (run : Run) (conversation : Conversation) → Stops session old messages run → CarriesOutMessages session old messages conversation run
stops_so session old messages run conversation stops =
    subst (λ (ms : List Message). CarriesOutMessages session old ms conversation run) (append-nil messages) (stops.before [] conversation)

-- or the first messages are carried out, and then the second
pub record Divides (session : ℕ) (old : State) (first second : List Message) (conversation : Conversation) (run : Run) : Type 0 where
  pub answers : List (List ℕ)
  pub mid : State
  pub two : Run
  pub before : GoesOn session old first answers mid
  pub behind : CarriesOutMessages session mid second conversation two
  pub both : run ≡ in_front answers two

pub carries_cases : (session : ℕ) (old : State) (first second : List Message) (conversation : Conversation) (run : Run) → CarriesOutMessages session old (first ++ second) conversation run
    → Stops session old first run ⊎ Divides session old first second conversation run
carries_cases session old [] second conversation run h = inr (record { answers = []; mid = old; two = run; before = refl; behind = h; both = refl })
carries_cases session old (message ∷ messages) second conversation run (outcome, mid, steps, follows) =
    elim (follows_cases (bytes_to message outcome) mid (CarriesOutMessages session mid (messages ++ second) conversation) run follows) [
      | inl shut ↦ inl (record {
        shut = ap (λ (r : Run). r.conversation) shut;
        before = λ more after. (outcome, mid, steps, follows_shut (bytes_to message outcome) mid (CarriesOutMessages session mid (messages ++ more) after) run shut);
      })
      | inr a ↦ elim (carries_cases session mid messages second conversation a.others a.behind) [
        | inl stops ↦ inl (record {
          shut = ap (λ (r : Run). r.conversation) a.both ∙ stops.shut;
          before = λ more after. (outcome, mid, steps, follows_on (bytes_to message outcome) mid (CarriesOutMessages session mid (messages ++ more) after) a.bytes a.others run a.is (stops.before more after) a.both);
        })
        | inr d ↦ inr (record {
          answers = a.bytes ∷ d.answers;
          mid = d.mid;
          two = d.two;
          before = (
            outcome,
            mid,
            steps,
            follows_on (bytes_to message outcome) mid (CarriesOutMessages session mid messages (reading [])) a.bytes (record { answers = d.answers; state = d.mid; conversation = reading [] })
                (record { answers = a.bytes ∷ d.answers; state = d.mid; conversation = reading [] }) a.is d.before refl,
          );
          behind = d.behind;
          both = a.both ∙ ap (in_front (a.bytes ∷ [])) d.both ∙ sym (in_front_twice (a.bytes ∷ []) d.answers d.two);
        })
      ]
    ]

-- all messages are one part, and none the other
pub carries_all : (session : ℕ) (old : State) (messages : List Message) (conversation : Conversation) (run : Run) → CarriesOutMessages session old messages conversation run
    → Stops session old messages run ⊎ Divides session old messages [] conversation run
carries_all session old messages conversation run h =
    carries_cases session old messages [] conversation run (subst (λ (ms : List Message). CarriesOutMessages session old ms conversation run) (sym (append-nil messages)) h)

-- messages after which a session is closed in any case
pub carries_shut : (session : ℕ) (old : State) (messages : List Message) (fault : CloseFault) (run : Run) → CarriesOutMessages session old messages (closed fault) run
    → (shown : CloseFault) × (run.conversation ≡ closed shown)
carries_shut session old messages fault run h =
    elim (carries_all session old messages (closed fault) run h) [
      | inl stops ↦ (NoMemory, stops.shut)
      | inr d ↦ (fault, ap (λ (r : Run). r.conversation) d.both ∙ ap (λ (r : Run). r.conversation) d.behind)
    ]

-- ---- one list, and then another

carries_behind : (session : ℕ) (old mid : State) (first second : List Message) (conversation : Conversation) (one two : Run) → CarriesOutMessages session old first (reading []) one
    → one.conversation ≡ reading [] → one.state ≡ mid → CarriesOutMessages session mid second conversation two → CarriesOutMessages session old (first ++ second) conversation (in_front one.answers two)
carries_behind session old mid [] second conversation one two before on is behind =
    let same : old ≡ mid = sym (ap (λ (r : Run). r.state) before) ∙ is in
    let nothing : in_front one.answers two ≡ two = ap (λ (r : Run). in_front r.answers two) before in
    subst (λ (r : Run). CarriesOutMessages session old second conversation r) (sym nothing) (subst (λ (s : State). CarriesOutMessages session s second conversation two) (sym same) behind)
carries_behind session old mid (message ∷ messages) second conversation one two (outcome, from, steps, follows) on is behind =
    elim (follows_cases (bytes_to message outcome) from (CarriesOutMessages session from messages (reading [])) one follows) [
      | inl shut ↦ let e = sym on ∙ ap (λ (r : Run). r.conversation) shut in absurd cc
      | inr a ↦
          let others = carries_behind session from mid messages second conversation a.others two a.behind
          (sym (ap (λ (r : Run). r.conversation) a.both) ∙ on) (sym (ap (λ (r : Run). r.state) a.both) ∙ is) behind in (
            outcome,
            from,
            steps,
            follows_on (bytes_to message outcome) from (CarriesOutMessages session from (messages ++ second) conversation) a.bytes (in_front a.others.answers two) (in_front one.answers two) a.is others
                (ap (λ (r : Run). in_front r.answers two) a.both ∙ in_front_twice (a.bytes ∷ []) a.others.answers two),
          )
    ]

pub carries_then : (session : ℕ) (old mid : State) (first second : List Message) (answers : List (List ℕ)) (conversation : Conversation) (two : Run)
    → GoesOn session old first answers mid → CarriesOutMessages session mid second conversation two → CarriesOutMessages session old (first ++ second) conversation (in_front answers two)
carries_then session old mid first second answers conversation two before behind =
    carries_behind session old mid first second conversation (record { answers = answers; state = mid; conversation = reading [] }) two before refl refl behind

-- after a session's messages are carried out, its conversation may be any
pub carries_to : (session : ℕ) (old mid : State) (messages : List Message) (answers : List (List ℕ)) (conversation : Conversation) → GoesOn session old messages answers mid
    → CarriesOutMessages session old messages conversation (record { answers = answers; state = mid; conversation = conversation })
carries_to session old mid messages answers conversation before =
    subst (λ (ms : List Message). CarriesOutMessages session old ms conversation (record { answers = answers; state = mid; conversation = conversation })) (append-nil messages)
    (subst (λ (r : Run). CarriesOutMessages session old (messages ++ []) conversation r) (in_front-silence (record { answers = answers; state = mid; conversation = conversation }))
    (carries_then session old mid messages [] answers conversation (silence mid conversation) before refl))
