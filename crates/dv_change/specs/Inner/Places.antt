-- What a position in memory stands for, and what its numbers and its bytes say.
use Rattle.std.specs.Prelude.{◌≡◌, ℕ, List, [], ◌∷◌, take, ⊤}
use Rattle.dv_value.specs.Tree.{string, document, fields_of}
use Rattle.dv_order.specs.Order.{canon}
use Rattle.dv_order.specs.Key.{value}
use Rattle.dv_order.specs.Inner.Sources.{IsTextIn}
use Rattle.dv_change.specs.declared.position.Part.{Part}
use Rattle.dv_change.specs.declared.position.Part.TheVariants.{Up}
use Rattle.dv_change.specs.declared.place.Place.{Place}
use Rattle.dv_change.specs.declared.place.Place.TheVariants.{One, Two, Short, Middle, Long, Doc, Listed}
use Rattle.dv_change.specs.Positions.{PosTree}
use Rattle.dv_change.specs.Inner.PartCodes.{part_top, part_high, part_low, part_of_code, first_top, first_high, first_low}

-- the first bytes as a text, alone
abbrev pub text_alone : ℕ → List ℕ → PosTree
text_alone len bytes = Up (value (string (take len bytes))) ∷ []

-- its parts, given by their codes, as a text, as a document or in a list
abbrev pub parts_of : Place → PosTree
parts_of (One top low high) = part_of_code top high low ∷ []
parts_of (Two top next_top low high next) = part_of_code top high 0 ∷ part_of_code next_top next low ∷ []
parts_of (Short len bytes) = text_alone len bytes
parts_of (Middle len bytes) = text_alone len bytes.value
parts_of (Long len bytes) = text_alone len bytes.value
parts_of (Doc fields) = Up (value (canon (document (fields_of fields)))) ∷ []
parts_of (Listed top low high parts) = parts.value.items

-- these are the numbers of the part
abbrev pub IsCodeOf : Part → ℕ → ℕ → ℕ → Type 0
IsCodeOf part top high low = (part_top part ≡ top) × (part_high part ≡ high) × (part_low part ≡ low)

-- these are the numbers of the first part, or 0 if there is none
abbrev pub IsFirstCode : PosTree → ℕ → ℕ → ℕ → Type 0
IsFirstCode parts top high low = (first_top parts ≡ top) × (first_high parts ≡ high) × (first_low parts ≡ low)

-- the numbers are the codes of the parts, and the first bytes a text
abbrev pub IsValid : Place → Type 0
IsValid (One top low high) = IsCodeOf (part_of_code top high low) top high low
IsValid (Two top next_top low high next) = IsCodeOf (part_of_code top high 0) top high 0 × IsCodeOf (part_of_code next_top next low) next_top next low
IsValid (Short len bytes) = IsTextIn len bytes
IsValid (Middle len bytes) = IsTextIn len bytes.value
IsValid (Long len bytes) = IsTextIn len bytes.value
IsValid (Doc fields) = ⊤
IsValid (Listed top low high parts) = IsFirstCode parts.value.items top high low
