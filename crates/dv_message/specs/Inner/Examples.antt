-- Worked examples of messages: what closes a session, at each limit and on both sides of it.
use Rattle.std.specs.Prelude.{◌≡◌, ℕ, Bool, true, false, List, [], ◌∷◌, ◌++◌, Some, None}
use Rattle.dv_message.specs.declared.fault.CloseFault.{CloseFault}
use Rattle.dv_message.specs.declared.fault.CloseFault.TheVariants.{BadLength, BadOpCode, BadFlag, Checksum, BadSection}
use Rattle.dv_message.specs.Sections.{Section, body, named, sections_in}
use Rattle.dv_message.specs.Message.{Message, Conversation, reading, closed, split}

-- ---- words for them

-- the bytes contain these messages, and then their session is in this state
abbrev pub BringsMessages : List ℕ → List Message → Conversation → Type 0
BringsMessages bytes messages conversation = split bytes ≡ record { messages = messages; conversation = conversation }

-- the bytes are less than a message, and are kept
abbrev pub IsKeptUnread : List ℕ → Type 0
IsKeptUnread bytes = BringsMessages bytes [] (reading bytes)

-- the bytes close their session
abbrev pub ClosesSession : List ℕ → CloseFault → Type 0
ClosesSession bytes fault = BringsMessages bytes [] (closed fault)

-- a header: messageLength, requestID 7, responseTo 0, and opCode in two bytes
abbrev pub header : ℕ → List ℕ → List ℕ
header size code = size ∷ 0 ∷ 0 ∷ 0 ∷ 7 ∷ 0 ∷ 0 ∷ 0 ∷ 0 ∷ 0 ∷ 0 ∷ 0 ∷ (code ++ 0 ∷ 0 ∷ [])

-- a header of OP_MSG, 2013
abbrev pub op_msg_header : ℕ → List ℕ
op_msg_header size = header size (0xdd ∷ 0x07 ∷ [])

-- a message of 26 bytes with these flags, and an empty document
abbrev pub flagged : List ℕ → List ℕ
flagged flags = op_msg_header 26 ++ flags ++ 0 ∷ 5 ∷ 0 ∷ 0 ∷ 0 ∷ 0 ∷ []

-- a message without flags, with these sections, which are short
abbrev pub sectioned : ℕ → List ℕ → List ℕ
sectioned size sections = op_msg_header size ++ 0 ∷ 0 ∷ 0 ∷ 0 ∷ sections

abbrev pub empty_document : List ℕ
empty_document = 5 ∷ 0 ∷ 0 ∷ 0 ∷ 0 ∷ []

-- what such a message asks
abbrev pub asks : Bool → List ℕ → Message
asks more_to_come document = record { request_id = 7; more_to_come = more_to_come; sections = body document ∷ [] }

-- the bytes consist of these sections; or, below, of no valid ones
abbrev pub Are : List ℕ → List Section → Type 0
Are bytes sections = sections_in bytes ≡ Some sections

abbrev pub AreNone : List ℕ → Type 0
AreNone bytes = sections_in bytes ≡ None

-- a section of no document, under a name of one byte
abbrev pub nothing_under : ℕ → List ℕ
nothing_under name = 1 ∷ 6 ∷ 0 ∷ 0 ∷ 0 ∷ name ∷ 0 ∷ []

-- ---- messages

pub record HeaderExamples : Type 0 where
  -- the length is shown by the fourth byte
  pub shown_later : IsKeptUnread (25 ∷ 0 ∷ 0 ∷ [])
  pub too_short : ClosesSession (25 ∷ 0 ∷ 0 ∷ 0 ∷ []) BadLength
  pub shortest : IsKeptUnread (26 ∷ 0 ∷ 0 ∷ 0 ∷ [])
  pub longest : IsKeptUnread (0x00 ∷ 0x6c ∷ 0xdc ∷ 0x02 ∷ [])
  pub too_long : ClosesSession (0x01 ∷ 0x6c ∷ 0xdc ∷ 0x02 ∷ []) BadLength
  -- the length is checked first
  pub length_first : ClosesSession (header 25 (0xdc ∷ 0x07 ∷ [])) BadLength
  -- the code by the sixteenth
  pub code_later : IsKeptUnread (26 ∷ 0 ∷ 0 ∷ 0 ∷ 7 ∷ 0 ∷ 0 ∷ 0 ∷ 0 ∷ 0 ∷ 0 ∷ 0 ∷ 0xdc ∷ 0x07 ∷ 0 ∷ [])
  pub code_below : ClosesSession (header 26 (0xdc ∷ 0x07 ∷ [])) BadOpCode
  pub code_right : IsKeptUnread (op_msg_header 26)
  pub code_above : ClosesSession (header 26 (0xde ∷ 0x07 ∷ [])) BadOpCode
  -- the flags by the twentieth
  pub flags_later : IsKeptUnread (op_msg_header 26 ++ 1 ∷ 0 ∷ 0 ∷ [])
  pub bit_0 : ClosesSession (op_msg_header 26 ++ 1 ∷ 0 ∷ 0 ∷ 0 ∷ []) Checksum
  pub bit_1 : BringsMessages (flagged (2 ∷ 0 ∷ 0 ∷ 0 ∷ [])) (asks true empty_document ∷ []) (reading [])
  pub bit_2 : ClosesSession (op_msg_header 26 ++ 4 ∷ 0 ∷ 0 ∷ 0 ∷ []) BadFlag
  pub bit_15 : ClosesSession (op_msg_header 26 ++ 0 ∷ 0x80 ∷ 0 ∷ 0 ∷ []) BadFlag
  pub bit_16 : BringsMessages (flagged (0 ∷ 0 ∷ 1 ∷ 0 ∷ [])) (asks false empty_document ∷ []) (reading [])
  pub bits_above : BringsMessages (flagged (0 ∷ 0 ∷ 0xff ∷ 0xff ∷ [])) (asks false empty_document ∷ []) (reading [])
  pub checksum_first : ClosesSession (op_msg_header 26 ++ 5 ∷ 0 ∷ 0 ∷ 0 ∷ []) Checksum

pub record SectionExamples : Type 0 where
  -- the sections are shown by the last byte
  pub shown_later : IsKeptUnread (sectioned 26 (2 ∷ 5 ∷ 0 ∷ 0 ∷ 0 ∷ []))
  pub kind_2 : ClosesSession (sectioned 26 (2 ∷ 5 ∷ 0 ∷ 0 ∷ 0 ∷ 0 ∷ [])) BadSection
  pub kind_0 : BringsMessages (sectioned 26 (0 ∷ empty_document)) (asks false empty_document ∷ []) (reading [])
  -- documents under a name, before the body and after it
  pub in_front : Are (nothing_under 100 ++ 0 ∷ empty_document) (named (100 ∷ []) [] ∷ body empty_document ∷ [])
  pub behind : Are (0 ∷ (empty_document ++ nothing_under 100)) (body empty_document ∷ named (100 ∷ []) [] ∷ [])
  pub two_documents : Are (0 ∷ (empty_document ++ 1 ∷ 16 ∷ 0 ∷ 0 ∷ 0 ∷ 100 ∷ 0 ∷ (empty_document ++ empty_document)))
      (body empty_document ∷ named (100 ∷ []) (empty_document ∷ empty_document ∷ []) ∷ [])
  pub two_names : Are (nothing_under 100 ++ nothing_under 101 ++ 0 ∷ empty_document) (named (100 ∷ []) [] ∷ named (101 ∷ []) [] ∷ body empty_document ∷ [])
  pub one_name_twice : AreNone (nothing_under 100 ++ nothing_under 100 ++ 0 ∷ empty_document)
  pub no_body : AreNone (nothing_under 100)
  -- a size includes itself, and leads to the message's end at most; a name ends within it, and so does each document
  pub size_too_small : AreNone (0 ∷ (empty_document ++ 1 ∷ 4 ∷ 0 ∷ 0 ∷ 0 ∷ 100 ∷ 0 ∷ []))
  pub size_too_large : AreNone (0 ∷ (empty_document ++ 1 ∷ 7 ∷ 0 ∷ 0 ∷ 0 ∷ 100 ∷ 0 ∷ []))
  pub name_without_end : AreNone (0 ∷ (empty_document ++ 1 ∷ 6 ∷ 0 ∷ 0 ∷ 0 ∷ 100 ∷ 100 ∷ []))
  pub document_too_long : AreNone (0 ∷ (empty_document ++ 1 ∷ 11 ∷ 0 ∷ 0 ∷ 0 ∷ 100 ∷ 0 ∷ 6 ∷ 0 ∷ 0 ∷ 0 ∷ 0 ∷ []))
  pub two_bodies : ClosesSession (sectioned 32 (0 ∷ 5 ∷ 0 ∷ 0 ∷ 0 ∷ 0 ∷ 0 ∷ empty_document)) BadSection
  -- the length in a document is the number of its bytes, and at least 5
  pub too_short : ClosesSession (sectioned 26 (0 ∷ 4 ∷ 0 ∷ 0 ∷ 0 ∷ 0 ∷ [])) BadSection
  pub too_long : ClosesSession (sectioned 26 (0 ∷ 6 ∷ 0 ∷ 0 ∷ 0 ∷ 0 ∷ [])) BadSection
  pub least_document : Are (0 ∷ empty_document) (body empty_document ∷ [])
  pub no_document : AreNone (0 ∷ 4 ∷ 0 ∷ 0 ∷ 0 ∷ [])
  -- what is in a document is checked only for the command
  pub unreadable : BringsMessages (sectioned 26 (0 ∷ 5 ∷ 0 ∷ 0 ∷ 0 ∷ 9 ∷ [])) (asks false (5 ∷ 0 ∷ 0 ∷ 0 ∷ 9 ∷ []) ∷ []) (reading [])
  -- after a message comes the next, or a fault, which closes the session after the message
  pub two : BringsMessages (sectioned 26 (0 ∷ empty_document) ++ flagged (2 ∷ 0 ∷ 0 ∷ 0 ∷ []) ++ 26 ∷ []) (asks false empty_document ∷ asks true empty_document ∷ []) (reading (26 ∷ []))
  pub fault_behind : BringsMessages (sectioned 26 (0 ∷ empty_document) ++ 25 ∷ 0 ∷ 0 ∷ 0 ∷ []) (asks false empty_document ∷ []) (closed BadLength)
