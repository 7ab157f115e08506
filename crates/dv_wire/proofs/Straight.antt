-- A session that is closed after its messages, because memory runs out for what follows them.
use Rattle.std.proofs.Common.{◌≡◌, ℕ, List, [], ◌++◌, length, take, sym, ap, subst, ◌∙◌, arith, inl, inr}
use Rattle.std.proofs.lemmas.List.{append-nil, take_all}
use Rattle.dv_message.specs.declared.fault.CloseFault.TheVariants.{NoMemory}
use Rattle.dv_core.specs.State.{State}
use Rattle.dv_message.specs.Message.{Message, reading, closed, Split}
use Rattle.dv_wire.specs.Schedule.{Run, in_front, CarriesOutMessages, TakesSplit, takes_all, takes_some}
use Rattle.dv_wire.proofs.Runs.{carries_all, carries_shut, carries_to}

pub shut_behind : (session : ℕ) (old : State) (stream : Split) (answers : List (List ℕ)) (state : State) (kept : List ℕ)
    → TakesSplit session old stream (record { answers = answers; state = state; conversation = reading kept })
    → TakesSplit session old stream (record { answers = answers; state = state; conversation = closed NoMemory })
shut_behind session old stream answers state kept (takes_all carried) =
    let run : Run = record { answers = answers; state = state; conversation = reading kept } in
    elim (carries_all session old stream.messages stream.conversation run carried) [
      | inl stops ↦ let e : reading kept ≡ closed NoMemory = stops.shut in absurd cc
      | inr d ↦
          let is : run ≡ record { answers = d.answers ++ []; state = d.mid; conversation = stream.conversation } = d.both ∙ ap (in_front d.answers) d.behind in
          let same_answers : d.answers ≡ answers = sym (ap (λ (r : Run). r.answers) is ∙ append-nil d.answers) in
          let same_state : d.mid ≡ state = sym (ap (λ (r : Run). r.state) is) in
          let shut : Run = record { answers = answers; state = state; conversation = closed NoMemory } in
          let so : CarriesOutMessages session old stream.messages (closed NoMemory) shut =
          rw (← same_answers, ← same_state) (carries_to session old d.mid stream.messages d.answers (closed NoMemory) d.before) in
          takes_some (length stream.messages)
          (subst (λ (ms : List Message). CarriesOutMessages session old ms (closed NoMemory) shut) (sym (take_all (length stream.messages) stream.messages (omega arith))) so)
    ]
shut_behind session old stream answers state kept (takes_some count carried) =
    let run : Run = record { answers = answers; state = state; conversation = reading kept } in
    let shut = carries_shut session old (take count stream.messages) NoMemory run carried in
    let e : reading kept ≡ closed shut.0 = shut.1 in absurd cc
