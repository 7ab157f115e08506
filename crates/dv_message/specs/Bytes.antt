-- Messages in a stream of bytes: all numbers in them are bytes, below 256.
use Rattle.std.specs.Prelude.{List, ⊤}
use Rattle.std.specs.List.{AllByRecursion}
use Rattle.dv_value.specs.Spelling.{IsBytes}
use Rattle.dv_message.specs.Sections.{Section, body, named}
use Rattle.dv_message.specs.Message.{Message, Conversation, reading, closed, Split}

-- the documents of a section consist of bytes
abbrev pub BringsBytes : Section → Type 0
BringsBytes (body document) = IsBytes document
BringsBytes (named name documents) = AllByRecursion IsBytes documents

-- the documents of all messages consist of bytes
abbrev pub BringBytes : List Message → Type 0
BringBytes messages = AllByRecursion (λ m. AllByRecursion BringsBytes m.sections) messages

-- the unfinished message consists of bytes
abbrev pub KeepsBytes : Conversation → Type 0
KeepsBytes (reading kept) = IsBytes kept
KeepsBytes (closed fault) = ⊤

-- the messages of a stream, and its unfinished message, consist of bytes
pub record IsByteSplit (stream : Split) : Type 0 where
  pub bring : BringBytes stream.messages
  pub keeps : KeepsBytes stream.conversation
