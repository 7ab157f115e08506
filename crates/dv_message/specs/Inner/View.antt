-- What messages in memory stand for.
use Rattle.std.specs.Prelude.{ℕ, List, ◌++◌}
use Rattle.std.specs.Int.{w32, to_le_bytes}
use Rattle.dv_message.specs.declared.front.Message as declared
use Rattle.dv_message.specs.declared.front.Front.{Front as FrontSeen}
use Rattle.dv_message.specs.declared.front.Front.TheVariants.{Unfinished, Closing, Whole}
use Rattle.dv_message.specs.Inner.SectionsView.{sections_seen}
use Rattle.dv_message.specs.Message.{Message, op_msg, StreamFront, unfinished, closing, whole}

abbrev pub message_seen : declared.Message → Message
message_seen m = record { request_id = m.request_id; more_to_come = m.more_to_come; sections = sections_seen m.sections }

abbrev pub front_seen : FrontSeen → StreamFront
front_seen Unfinished = unfinished
front_seen (Closing fault) = closing fault
front_seen (Whole message rest) = whole (message_seen message) rest.now

-- a reply to a request, with a length of 0 in its header
abbrev pub unmeasured : ℕ → List ℕ → List ℕ
unmeasured response_to sections = to_le_bytes w32 0 ++ (to_le_bytes w32 0 ++ (to_le_bytes w32 response_to ++ (to_le_bytes w32 op_msg ++ (to_le_bytes w32 0 ++ sections))))
