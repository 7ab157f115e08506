-- Why bytes are not a document within the limits: the faults as texts and as numbers.
use Rattle.std.specs.Prelude.{ℕ, List, ◌++◌, codes, decimal, [], ◌∷◌, ◌/◌, ◌%◌}
use Rattle.std.specs.Fmt.{digit_glyph}
use Rattle.std.specs.Prelude.{false}
use Rattle.dv_value.specs.declared.fault.BsonFault.{BsonFault}
use Rattle.dv_value.specs.declared.fault.BsonFault.TheVariants.{Truncated, BadLength, RefusedType, BadUtf8, BadBool, BadArrayName, RepeatedName, TooDeep, TooLarge, NoMemory, BadName}

-- a byte as two lower case hexadecimal digits
abbrev pub hex_byte : ℕ → List ℕ
hex_byte b = digit_glyph false (b / 16) ∷ digit_glyph false (b % 16) ∷ []

-- the name of a fault
abbrev pub fault_name : BsonFault → List ℕ
fault_name Truncated = codes "Truncated"
fault_name BadLength = codes "BadLength"
fault_name (RefusedType byte at) = codes "RefusedType"
fault_name BadUtf8 = codes "BadUtf8"
fault_name BadBool = codes "BadBool"
fault_name BadArrayName = codes "BadArrayName"
fault_name RepeatedName = codes "RepeatedName"
fault_name TooDeep = codes "TooDeep"
fault_name TooLarge = codes "TooLarge"
fault_name NoMemory = codes "NoMemory"
fault_name BadName = codes "BadName"

-- the text of a fault: its name; for a refused type also the type byte and its offset
abbrev pub fault_text : BsonFault → List ℕ
fault_text (RefusedType byte at) = codes "RefusedType 0x" ++ hex_byte byte ++ codes " at " ++ decimal at
fault_text fault = fault_name fault

-- the number of a fault
abbrev pub fault_number : BsonFault → ℕ
fault_number Truncated = 1
fault_number BadLength = 2
fault_number (RefusedType byte at) = 3
fault_number BadUtf8 = 4
fault_number BadBool = 5
fault_number BadArrayName = 6
fault_number RepeatedName = 7
fault_number TooDeep = 8
fault_number TooLarge = 9
fault_number NoMemory = 10
fault_number BadName = 11
