-- What sessions in memory represent.
use Rattle.std.specs.Prelude.{ℕ, List}
use Rattle.dv_wire.specs.declared.session.Conversation.{Conversation as ConversationSeen}
use Rattle.dv_wire.specs.declared.session.Conversation.TheVariants.{Reading, Closed}
use Rattle.dv_wire.specs.declared.session.Session.{Session}
use Rattle.dv_message.specs.Message.{Conversation, reading, closed}
use Rattle.dv_wire.specs.declared.reply.Body.TheVariants as bodies
use Rattle.dv_wire.specs.declared.hub.Fed.TheVariants as fed

-- the conversation of a session
abbrev pub conversation_seen : ConversationSeen → Conversation
conversation_seen (Reading kept) = reading kept.items
conversation_seen (Closed fault) = closed fault

-- the number and the conversation of a session
abbrev pub session_seen : Session → ℕ × Conversation
session_seen s = (s.number, conversation_seen s.conversation)
