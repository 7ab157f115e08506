-- A world as a ghost value, one to one: so a proof can tell two worlds apart.
use Rattle.std.specs.Prelude.{◌≡◌, ℕ, ◌⊎◌, List, refl}
use Rattle.std.proofs.Common.{inl, inr}
use Rattle.std.specs.Coded.{Coded, code_by, coded×, coded⊎, coded_list, coded_ℕ}
use Rattle.dv_message.specs.declared.fault.CloseFault.{CloseFault}
use Rattle.dv_message.specs.contracts.fault.CloseFault as fault
use Rattle.dv_core.specs.State.{State}
use Rattle.dv_core.specs.Inner.StateCode.{coded_store_state}
use Rattle.dv_message.specs.Message.{Conversation, reading, closed}
use Rattle.dv_wire.specs.Schedule.{World}

abbrev either : Conversation → List ℕ ⊎ CloseFault
either (reading bytes) = inl bytes
either (closed fault) = inr fault

abbrev conversation_from : List ℕ ⊎ CloseFault → Conversation
conversation_from (inl bytes) = reading bytes
conversation_from (inr fault) = closed fault

abbrev same_conversation : (c : Conversation) → conversation_from (either c) ≡ c
same_conversation (reading bytes) = refl
same_conversation (closed fault) = refl

abbrev coded_conversation : Coded Conversation
coded_conversation = code_by (List ℕ ⊎ CloseFault) (coded⊎ (coded_list coded_ℕ) fault.the_row.coded) either conversation_from same_conversation

abbrev pub coded_world : Coded World
coded_world =
    code_by (State × (ℕ × List (ℕ × Conversation))) (coded× coded_store_state (coded× coded_ℕ (coded_list (coded× coded_ℕ coded_conversation))))
    (λ w. (w.state, (w.next, w.sessions))) (λ p. record { state = p.0; next = p.1.0; sessions = p.1.1 }) (λ _. refl)
