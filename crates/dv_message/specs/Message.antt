-- Messages: OP_MSG with the standard message header (MongoDB manual, "MongoDB Wire Protocol").
use Rattle.std.specs.Prelude.{◌≡◌, ℕ, zero, suc, ◌+◌, ◌-◌, min, max, ◌/◌, ◌%◌, ◌^◌, ◌≤◌, ◌<◌, Bool, true, false, ◌||◌, not, List, [], ◌∷◌, ◌++◌, length, take, drop, Option, Some, None, nat_lt, ◌==◌, if◌then◌else◌}
use Rattle.std.specs.Int.{w32, to_le_bytes}
use Rattle.dv_message.specs.declared.fault.CloseFault.{CloseFault}
use Rattle.dv_message.specs.declared.fault.CloseFault.TheVariants.{BadLength, BadOpCode, BadFlag, Checksum, BadSection}
use Rattle.dv_message.specs.Sections.{Section, number_after, sections_spelling, are_sections, sections_in}

-- the operation code of OP_MSG
abbrev pub op_msg : ℕ
op_msg = 2013

-- the least length of a message in bytes: the header, the flags, one kind byte and the smallest document
abbrev pub shortest_message : ℕ
shortest_message = 26

-- the greatest length of a message in bytes
abbrev pub longest_message : ℕ
longest_message = 48000000

-- ---- messages

-- the requestID of a message, as an unsigned number; whether its flag moreToCome is set, so that it gets no reply; and its sections
pub record Message : Type 0 where
  pub request_id : ℕ
  pub more_to_come : Bool
  pub sections : List Section

-- the encoding of a message: the header (messageLength, requestID, responseTo, opCode), the flagBits and the sections
unfoldable pub message_spelling : ℕ → ℕ → ℕ → List ℕ → List ℕ
message_spelling request_id response_to flags sections =
    to_le_bytes w32 (length sections + 20) ++ (to_le_bytes w32 request_id ++ (to_le_bytes w32 response_to ++ (to_le_bytes w32 op_msg ++ (to_le_bytes w32 flags ++ sections))))

-- whether flag bit 0, checksumPresent, is set
abbrev pub has_checksum : ℕ → Bool
has_checksum flags = flags % 2 == 1

-- whether flag bit 1, moreToCome, is set
abbrev pub has_more_to_come : ℕ → Bool
has_more_to_come flags = flags / 2 % 2 == 1

-- whether one of the flag bits 2 to 15 is set, which is refused; bits from 16 are ignored
abbrev pub has_unknown_flag : ℕ → Bool
has_unknown_flag flags = not (flags / 4 % 2 ^ 14 == 0)

-- the bytes are an encoding of the message; responseTo may be anything
pub record IsMessage (message : Message) (bytes : List ℕ) : Type 0 where
  pub response_to : ℕ
  pub flags : ℕ
  pub numbers : (message.request_id < 2 ^ 32) × (response_to < 2 ^ 32) × (flags < 2 ^ 32)
  pub no_checksum : has_checksum flags ≡ false
  pub known_flags : has_unknown_flag flags ≡ false
  pub more : message.more_to_come ≡ has_more_to_come flags
  pub sections : are_sections message.sections ≡ true
  pub whole : bytes ≡ message_spelling message.request_id response_to flags (sections_spelling message.sections)
  pub limits : length bytes ≤ longest_message

-- what a stream begins with: part of a message, a closing fault that the bytes show already, or a whole message with the bytes after it
pub data StreamFront : Type 0 where
  unfinished : StreamFront
  closing : CloseFault → StreamFront
  whole : Message → List ℕ → StreamFront

-- a message with these sections
abbrev pub message_with : ℕ → ℕ → List Section → Message
message_with request_id flags sections = record { request_id = request_id; more_to_come = has_more_to_come flags; sections = sections }

-- the message with these sections, or a fault if the sections are not valid
abbrev pub front_by : ℕ → ℕ → Option (List Section) → List ℕ → StreamFront
front_by request_id flags None following = closing BadSection
front_by request_id flags (Some sections) following = whole (message_with request_id flags sections) following

-- What a stream begins with. The length of a message is checked once its four bytes are there, the operation code after 16 bytes, the
-- flags after 20, and the sections when the message is complete.
unfoldable pub stream_front : List ℕ → StreamFront
stream_front bytes =
    if nat_lt (length bytes) 4 then unfinished
    else if nat_lt (number_after 0 bytes) shortest_message || nat_lt longest_message (number_after 0 bytes) then closing BadLength
    else if nat_lt (length bytes) 16 then unfinished
    else if not (number_after 12 bytes == op_msg) then closing BadOpCode
    else if nat_lt (length bytes) 20 then unfinished
    else if has_checksum (number_after 16 bytes) then closing Checksum
    else if has_unknown_flag (number_after 16 bytes) then closing BadFlag
    else if nat_lt (length bytes) (number_after 0 bytes) then unfinished
    else front_by (number_after 4 bytes) (number_after 16 bytes) (sections_in (drop 20 (take (number_after 0 bytes) bytes))) (drop (number_after 0 bytes) bytes)

-- the length of the message that these bytes begin, or 4 until its length is known
abbrev pub shown_length : List ℕ → ℕ
shown_length bytes = if nat_lt (length bytes) 4 then 4 else number_after 0 bytes

-- how many bytes of a piece belong to the unfinished message of the kept bytes, as far as its length is known: at least one, and at
-- most all
abbrev pub front_length : List ℕ → List ℕ → ℕ
front_length [] piece = min (length piece) (max 1 (shown_length piece))
front_length (b ∷ kept) piece = min (length piece) (max 1 (shown_length (b ∷ kept) - length (b ∷ kept)))

-- ---- streams

-- the state of a session: open, with the bytes of an unfinished message, or closed by a fault
pub data Conversation : Type 0 where
  reading : List ℕ → Conversation
  closed : CloseFault → Conversation

-- the whole messages of a stream, and the conversation after them
pub record Split : Type 0 where
  pub messages : List Message
  pub conversation : Conversation

-- a message before the messages of the rest of the stream
abbrev pub split_behind : Message → Split → Split
split_behind message others = record { messages = message ∷ others.messages; conversation = others.conversation }

-- the messages of a stream, by what it begins with
abbrev pub split_from : List ℕ → StreamFront → (List ℕ → Split) → Split
split_from bytes unfinished others = record { messages = []; conversation = reading bytes }
split_from bytes (closing fault) others = record { messages = []; conversation = closed fault }
split_from bytes (whole message following) others = split_behind message (others following)

-- the whole messages of the bytes, at most this many, and the conversation after them
unfoldable pub split_within : ℕ → List ℕ → Split
split_within zero bytes = record { messages = []; conversation = reading bytes }
split_within (suc steps) bytes = split_from bytes (stream_front bytes) (split_within steps)

-- The whole messages of the bytes, and the conversation after them. Each message takes at least one byte, so the number of bytes and
-- one more step are enough.
unfoldable pub split : List ℕ → Split
split bytes = split_within (suc (length bytes)) bytes

-- the messages and the conversation after further bytes; after a fault these are ignored
abbrev pub continuation_behind : List Message → Conversation → List ℕ → Split
continuation_behind messages (reading bytes) more = record { messages = messages ++ (split (bytes ++ more)).messages; conversation = (split (bytes ++ more)).conversation }
continuation_behind messages (closed fault) more = record { messages = messages; conversation = closed fault }

-- a stream after further bytes
abbrev pub continuation : Split → List ℕ → Split
continuation stream more = continuation_behind stream.messages stream.conversation more
