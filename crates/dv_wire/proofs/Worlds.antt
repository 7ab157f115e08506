-- What holds in each world: sessions ascend by their numbers, and what happens to one leaves the others unchanged.
use Rattle.std.proofs.Common.{◌≡◌, ℕ, suc, ◌≤◌, ◌<◌, eqb, List, [], ◌∷◌, ◌++◌, Option, Some, None, Result, Ok, Err, refl, sym, ap, subst, ◌∙◌, arith, inl, inr}
use Rattle.std.proofs.lemmas.Bool.{cases_Bool, eq-eqb, ne_eqb, eqb-true}
use Rattle.std.specs.List.{concat}
use Rattle.dv_message.specs.declared.fault.CloseFault.{CloseFault}
use Rattle.dv_wire.specs.declared.fault.HubFault.{HubFault}
use Rattle.dv_wire.specs.declared.fault.HubFault.TheVariants.{TooManySessions, NoMemory}
use Rattle.dv_wire.specs.declared.hub.SessionId.{SessionId}
use Rattle.dv_wire.specs.declared.hub.Fed.{Fed}
use Rattle.dv_wire.specs.declared.hub.Fed.TheVariants as fed
use Rattle.dv_core.specs.State.{State}
use Rattle.dv_message.specs.Message.{Conversation, reading, closed}
use Rattle.dv_wire.specs.Schedule.{World, conversation_of, with_conversation, sessions_but, Opens, Feeds, end}
use Rattle.dv_wire.specs.Sound.{AreNumbered, IsNumbered}

-- ---- numbers

below_next : (first : ℕ) (ss : List (ℕ × Conversation)) (next : ℕ) → AreNumbered first ss next → first ≤ next
below_next first [] next numbered = numbered
below_next first (s ∷ ss) next numbered = let behind = below_next (suc s.0) ss next numbered.1 in omega (arith, numbered.0)

AreNumbered-from : (first less : ℕ) (ss : List (ℕ × Conversation)) (next : ℕ) → less ≤ first → AreNumbered first ss next → AreNumbered less ss next
AreNumbered-from first less [] next le numbered = omega arith
AreNumbered-from first less (s ∷ ss) next le numbered = (omega (arith, numbered.0), numbered.1)

-- no session has a number below the first, or the next one
before_first : (session first : ℕ) (ss : List (ℕ × Conversation)) (next : ℕ) → session < first → AreNumbered first ss next → conversation_of session ss ≡ None
before_first session first [] next lt numbered = refl
before_first session first (s ∷ ss) next lt numbered =
    let other : s.0 ≡ session → ⊥ = (λ e. omega (arith, numbered.0)) in
    rw (ne_eqb s.0 session other) (before_first session (suc s.0) ss next (omega (arith, numbered.0)) numbered.1)

pub at_next : (first : ℕ) (ss : List (ℕ × Conversation)) (next : ℕ) → AreNumbered first ss next → conversation_of next ss ≡ None
at_next first [] next numbered = refl
at_next first (s ∷ ss) next numbered =
    let behind = below_next (suc s.0) ss next numbered.1 in
    let other : s.0 ≡ next → ⊥ = (λ e. omega arith) in
    rw (ne_eqb s.0 next other) (at_next (suc s.0) ss next numbered.1)

pub AreNumbered-append : (first : ℕ) (ss : List (ℕ × Conversation)) (next : ℕ) (now : Conversation) → AreNumbered first ss next → AreNumbered first (ss ++ (next, now) ∷ []) (suc next)
AreNumbered-append first [] next now numbered = (numbered, omega arith)
AreNumbered-append first (s ∷ ss) next now numbered = (numbered.0, AreNumbered-append (suc s.0) ss next now numbered.1)

pub AreNumbered-with : (session first : ℕ) (now : Conversation) (ss : List (ℕ × Conversation)) (next : ℕ) → AreNumbered first ss next → AreNumbered first (with_conversation session now ss) next
AreNumbered-with session first now [] next numbered = numbered
AreNumbered-with session first now (s ∷ ss) next numbered =
    elim (cases_Bool (eqb s.0 session)) [
      | inl here ↦ rw here (let e = eqb-true s.0 session here in subst (λ (n : ℕ). (first ≤ n) × AreNumbered (suc n) ss next) e numbered)
      | inr other ↦ rw other (numbered.0, AreNumbered-with session (suc s.0) now ss next numbered.1)
    ]

pub AreNumbered-but : (session first : ℕ) (ss : List (ℕ × Conversation)) (next : ℕ) → AreNumbered first ss next → AreNumbered first (sessions_but session ss) next
AreNumbered-but session first [] next numbered = numbered
AreNumbered-but session first (s ∷ ss) next numbered =
    elim (cases_Bool (eqb s.0 session)) [
      | inl here ↦ rw here (AreNumbered-from (suc s.0) first ss next (omega (arith, numbered.0)) numbered.1)
      | inr other ↦ rw other (numbered.0, AreNumbered-but session (suc s.0) ss next numbered.1)
    ]

-- ---- one session and another

pub conversation_of-append : (session next : ℕ) (ss : List (ℕ × Conversation)) (now : Conversation) → conversation_of session ss ≡ None → next ≡ session → conversation_of session (ss ++ (next, now) ∷ []) ≡ Some now
conversation_of-append session next [] now none same = rw (eq-eqb next session same) refl
conversation_of-append session next (s ∷ ss) now none same =
    elim (cases_Bool (eqb s.0 session)) [
      | inl here ↦ let some = rw here at none in absurd cc
      | inr other ↦ rw other (conversation_of-append session next ss now (rw other at none) same)
    ]

pub other-append : (other next : ℕ) (ss : List (ℕ × Conversation)) (now : Conversation) → (next ≡ other → ⊥) → conversation_of other (ss ++ (next, now) ∷ []) ≡ conversation_of other ss
other-append other next [] now differs = rw (ne_eqb next other differs) refl
other-append other next (s ∷ ss) now differs =
    elim (cases_Bool (eqb s.0 other)) [ inl here ↦ rw here refl | inr past ↦ rw past (other-append other next ss now differs) ]

pub conversation_of-with : (session : ℕ) (ss : List (ℕ × Conversation)) (before now : Conversation) → conversation_of session ss ≡ Some before → conversation_of session (with_conversation session now ss) ≡ Some now
conversation_of-with session [] before now e = absurd cc
conversation_of-with session (s ∷ ss) before now e = grind (arith, conversation_of-with session ss before now, eq-eqb session session refl)

-- a session that has this conversation already
pub with-same : (session : ℕ) (ss : List (ℕ × Conversation)) (now : Conversation) → conversation_of session ss ≡ Some now → with_conversation session now ss ≡ ss
with-same session [] now e = refl
with-same session (s ∷ ss) now e =
    elim (cases_Bool (eqb s.0 session)) [
      | inl here ↦
          let same : Some s.1 ≡ Some now = rw here at e in
          let is_now : s.1 ≡ now = cc in
          rw here (rw (← eqb-true s.0 session here, ← is_now) refl)
      | inr past ↦ rw past (ap (λ (others : List (ℕ × Conversation)). s ∷ others) (with-same session ss now (rw past at e)))
    ]

pub other-with : (other session : ℕ) (ss : List (ℕ × Conversation)) (now : Conversation) → (session ≡ other → ⊥) → conversation_of other (with_conversation session now ss) ≡ conversation_of other ss
other-with other session [] now differs = refl
other-with other session (s ∷ ss) now differs =
    elim (cases_Bool (eqb s.0 session)) [
      | inl here ↦ let e : s.0 ≡ other → ⊥ = (λ same. differs (sym (eqb-true s.0 session here) ∙ same)) in rw (here, ne_eqb session other differs, ne_eqb s.0 other e) refl
      | inr past ↦ rw past (elim (cases_Bool (eqb s.0 other)) [ inl here ↦ rw here refl | inr not_here ↦ rw not_here (other-with other session ss now differs) ])
    ]

conversation_of-but : (session first : ℕ) (ss : List (ℕ × Conversation)) (next : ℕ) → AreNumbered first ss next → conversation_of session (sessions_but session ss) ≡ None
conversation_of-but session first [] next numbered = refl
conversation_of-but session first (s ∷ ss) next numbered =
    elim (cases_Bool (eqb s.0 session)) [
      | inl here ↦ let e = eqb-true s.0 session here in rw here (before_first session (suc s.0) ss next (omega arith) numbered.1)
      | inr other ↦ rw (other, other) (conversation_of-but session (suc s.0) ss next numbered.1)
    ]

pub other-but : (other session : ℕ) (ss : List (ℕ × Conversation)) → (session ≡ other → ⊥) → conversation_of other (sessions_but session ss) ≡ conversation_of other ss
other-but other session [] differs = refl
other-but other session (s ∷ ss) differs =
    elim (cases_Bool (eqb s.0 session)) [
      | inl here ↦ let e : s.0 ≡ other → ⊥ = (λ same. differs (sym (eqb-true s.0 session here) ∙ same)) in rw (here, ne_eqb s.0 other e) refl
      | inr past ↦ rw past (elim (cases_Bool (eqb s.0 other)) [ inl here ↦ rw here refl | inr not_here ↦ rw not_here (other-but other session ss differs) ])
    ]

-- ---- events

module _ (old new : World) where
  pub opened_numbered : (id : SessionId) → IsNumbered old → Opens old (Ok id) new → IsNumbered new × (id.number ≡ old.next) × (new.next ≡ suc old.next)
  opened_numbered id numbered opens =
      (subst IsNumbered (sym opens.3) (AreNumbered-append 0 old.sessions old.next (reading []) numbered), opens.2, ap (λ (w : World). w.next) opens.3)

  pub opened_there : (id : SessionId) → IsNumbered old → Opens old (Ok id) new → (conversation_of id.number old.sessions ≡ None) × (conversation_of id.number new.sessions ≡ Some (reading []))
  opened_there id numbered opens =
      let before : conversation_of id.number old.sessions ≡ None = rw (opens.2) (at_next 0 old.sessions old.next numbered) in
      (before, ap (λ (w : World). conversation_of id.number w.sessions) opens.3 ∙ conversation_of-append id.number old.next old.sessions (reading []) before (sym opens.2))

  pub opened_other : (id : SessionId) (other : ℕ) → Opens old (Ok id) new → (id.number ≡ other → ⊥) → conversation_of other new.sessions ≡ conversation_of other old.sessions
  opened_other id other opens differs =
      ap (λ (w : World). conversation_of other w.sessions) opens.3 ∙ other-append other old.next old.sessions (reading []) (λ e. differs (opens.2 ∙ e))

  pub opens_state : (result : Result SessionId HubFault) → Opens old result new → new.state ≡ old.state
  opens_state (Ok id) opens = ap (λ (w : World). w.state) opens.3
  opens_state (Err TooManySessions) refused = ap (λ (w : World). w.state) refused.1
  opens_state (Err NoMemory) refused = ap (λ (w : World). w.state) refused

  pub refused_same : (fault : HubFault) → Opens old (Err fault) new → new ≡ old
  refused_same TooManySessions refused = refused.1
  refused_same NoMemory refused = refused

  module _ (session : ℕ) (piece bytes : List ℕ) (answer : Fed) where
    -- what holds of the old world, and of each world after a run of this session, holds of the new one
    fed_by : (P : World → Type 0) (here : Option Conversation) → conversation_of session old.sessions ≡ here → Feeds old session piece bytes answer new → P old
        → ((state : State) (now : Conversation) → P (record { state = state; next = old.next; sessions = with_conversation session now old.sessions })) → P new
    fed_by P None e feeds before behind = let (answers, is, nothing) = rw e at feeds in subst P (sym nothing.2) before
    fed_by P (Some c) e feeds before behind = let (answers, is, (run, hears, are, told, world)) = rw e at feeds in subst P (sym world) (behind run.state run.conversation)

    pub fed_numbers : Feeds old session piece bytes answer new → new.next ≡ old.next
    fed_numbers feeds = fed_by (λ (w : World). w.next ≡ old.next) (conversation_of session old.sessions) refl feeds refl (λ state now. refl)

    pub fed_numbered : IsNumbered old → Feeds old session piece bytes answer new → IsNumbered new × (new.next ≡ old.next)
    fed_numbered numbered feeds =
        fed_by (λ (w : World). IsNumbered w × (w.next ≡ old.next)) (conversation_of session old.sessions) refl feeds (numbered, refl)
        (λ state now. (AreNumbered-with session 0 now old.sessions old.next numbered, refl))

    pub fed_other : (other : ℕ) → Feeds old session piece bytes answer new → (session ≡ other → ⊥) → conversation_of other new.sessions ≡ conversation_of other old.sessions
    fed_other other feeds differs =
        fed_by (λ (w : World). conversation_of other w.sessions ≡ conversation_of other old.sessions) (conversation_of session old.sessions) refl feeds refl
        (λ state now. other-with other session old.sessions now differs)

    pub fed_nobody : conversation_of session old.sessions ≡ None → Feeds old session piece bytes answer new → (bytes ≡ []) × (answer ≡ fed.Unknown) × (new ≡ old)
    fed_nobody none feeds = let (answers, is, nothing) = rw none at feeds in (is ∙ ap concat nothing.0, nothing.1, nothing.2)

    pub fed_closed : (fault : CloseFault) → conversation_of session old.sessions ≡ Some (closed fault) → Feeds old session piece bytes answer new
        → (bytes ≡ []) × (answer ≡ fed.Closed fault) × (new.state ≡ old.state) × (conversation_of session new.sessions ≡ Some (closed fault))
    fed_closed fault there feeds =
        let (answers, is, (run, hears, are, told, world)) = rw there at feeds in
        let is_now = ap (λ (w : World). conversation_of session w.sessions) world ∙ conversation_of-with session old.sessions (closed fault) run.conversation there in
        (is ∙ ap concat are ∙ rw hears refl, told ∙ rw hears refl, ap (λ (w : World). w.state) world ∙ rw hears refl, is_now ∙ rw hears refl)

pub ended_numbered : (old : World) (session : ℕ) → IsNumbered old → IsNumbered (end session old)
ended_numbered old session numbered = AreNumbered-but session 0 old.sessions old.next numbered

pub ended_gone : (old : World) (session : ℕ) → IsNumbered old → conversation_of session (end session old).sessions ≡ None
ended_gone old session numbered = conversation_of-but session 0 old.sessions old.next numbered
