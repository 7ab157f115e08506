-- How it is reported that memory ran out: in a reply, in the bytes of replies, and in what is reported of an event.
use Rattle.std.specs.Prelude.{◌≡◌, ℕ, ◌⊎◌, List, [], ◌∷◌, ◌++◌, map, Err}
use Rattle.std.specs.List.{AllByRecursion, concat}
use Rattle.dv_value.specs.Spelling.{spelling}
use Rattle.dv_value.specs.Tree.{Tree, Field}
use Rattle.dv_command.specs.Replies.{cut_error, document_of, refusal_reply, update_reply, write_reply}
use Rattle.dv_refusal.specs.declared.refusal.Refusal.TheVariants.{WantOfMemory}
use Rattle.dv_wire.specs.declared.events.Said.{Said}
use Rattle.dv_wire.specs.declared.events.Said.TheVariants as said
use Rattle.dv_message.specs.declared.fault.CloseFault.TheVariants as close_faults
use Rattle.dv_wire.specs.declared.fault.HubFault.TheVariants as hub_faults
use Rattle.dv_wire.specs.declared.hub.Fed.TheVariants as fed
use Rattle.dv_message.specs.Message.{message_spelling}
use Rattle.dv_message.specs.Sections.{body, section_spelling}

-- the errors of a write, followed by the error of the statement at this index, which ran out of memory after `made` changes
abbrev pub with_cut : List Tree → ℕ → ℕ → List Tree
with_cut errors place made = errors ++ document_of (cut_error place made) ∷ []

-- a reply that reports that memory ran out: it refuses the command with 900, or it replies to a write that ended in one of its
-- statements
abbrev pub IsReplyOfWant : List Field → Type 0
IsReplyOfWant reply =
    (reply ≡ refusal_reply WantOfMemory)
    ⊎ ((errors : List Tree) × (place : ℕ) × (made : ℕ) × (n : ℕ) × (changed : ℕ)
    × ((reply ≡ write_reply n (with_cut errors place made)) ⊎ (reply ≡ update_reply n changed (with_cut errors place made))))

-- the bytes of a reply to the message with this requestID
abbrev pub sent : ℕ × List Field → List ℕ
sent reply = message_spelling 0 reply.0 0 (section_spelling (body (spelling reply.1)))

-- the bytes are replies, one of which reports that memory ran out
abbrev pub HoldsWant : List ℕ → Type 0
HoldsWant bytes =
    (before : List (ℕ × List Field)) × (reply : ℕ × List Field) × (behind : List ℕ) × (bytes ≡ concat (map sent before) ++ (sent reply ++ behind)) × IsReplyOfWant reply.1

-- what is reported of an event says that memory ran out: a session was not opened, or was closed, or a reply reports it
abbrev pub SaysWant : Said → Type 0
SaysWant (said.Opened result) = result ≡ Err hub_faults.NoMemory
SaysWant (said.Fed told bytes) = (told ≡ fed.Closed close_faults.NoMemory) ⊎ HoldsWant bytes
SaysWant (said.Ended unfinished) = ⊥

-- nothing that is reported says that memory ran out
abbrev pub NoneSaysWant : List Said → Type 0
NoneSaysWant told = AllByRecursion (λ s. SaysWant s → ⊥) told
