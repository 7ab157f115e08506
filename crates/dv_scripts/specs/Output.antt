-- What is printed for a line of a script, as bytes: a space is 32, a line feed 10.
use Rattle.std.specs.Prelude.{◌≡◌, ℕ, ◌<◌, ◌&&◌, List, [], ◌∷◌, ◌++◌, length, take, codes, nat_le, if◌then◌else◌}
use Rattle.std.specs.Fmt.{decimal}
use Rattle.std.specs.Int.{w32, from_le_bytes}
use Rattle.std.specs.List.{flat_map}
use Rattle.hex.specs.Hex.{encode_lower}
use Rattle.dv_message.specs.Fault.{close_number}
use Rattle.dv_message.specs.declared.fault.CloseFault.{CloseFault}
use Rattle.dv_wire.specs.declared.hub.Fed.{Fed}
use Rattle.dv_wire.specs.declared.hub.Fed.TheVariants as fed

-- ---- lines

-- the line of a reply: the session's number in the script, a space, and the bytes of the reply in lower case hexadecimal digits
abbrev pub reply_line : ℕ → List ℕ → List ℕ
reply_line number reply = decimal number ++ codes " " ++ encode_lower reply ++ codes "\n"

-- the line of a session that was closed by a fault
abbrev pub closed_line : ℕ → CloseFault → List ℕ
closed_line number fault = decimal number ++ codes " closed " ++ decimal (close_number fault) ++ codes "\n"

-- the line of a session's end: how many bytes of an unfinished message were dropped
abbrev pub end_line : ℕ → ℕ → List ℕ
end_line number unfinished = decimal number ++ codes " end " ++ decimal unfinished ++ codes "\n"

-- the line that reports that a session was closed; nothing if it is open
abbrev pub fate_line : ℕ → Fed → List ℕ
fate_line number fed.Open = []
fate_line number (fed.Closed fault) = closed_line number fault
fate_line number fed.Unknown = []

-- the lines for a piece: one for each reply, then one if the session was closed
abbrev pub fed_text : ℕ → List (List ℕ) → Fed → List ℕ
fed_text number replies fed = flat_map (reply_line number) replies ++ fate_line number fed

-- ---- replies, one after the other

-- the int32 at the start of the bytes, as an unsigned number
abbrev pub length_told : List ℕ → ℕ
length_told bytes = from_le_bytes w32 (take 4 bytes)

-- The length of the first reply, which is in its first four bytes. If these aren't a valid length, all bytes are one reply; a hub never
-- sends such bytes.
unfoldable pub first_length : List ℕ → ℕ
first_length bytes = if nat_le 4 (length_told bytes) && nat_le (length_told bytes) (length bytes) then length_told bytes else length bytes

-- the bytes are these replies, none of them empty
abbrev pub AreReplies : List (List ℕ) → List ℕ → Type 0
AreReplies [] bytes = bytes ≡ []
AreReplies (reply ∷ replies) bytes =
    (others : List ℕ) × (bytes ≡ reply ++ others) × (length reply ≡ first_length bytes) × (0 < length reply) × AreReplies replies others
