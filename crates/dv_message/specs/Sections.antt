-- The sections of a message (MongoDB manual, "MongoDB Wire Protocol", OP_MSG).
use Rattle.std.specs.Prelude.{ℕ, zero, suc, ◌+◌, Bool, true, ◌&&◌, not, List, [], ◌∷◌, ◌++◌, length, take, drop, Option, Some, None, nat_lt, nat_le, ◌==◌, if◌then◌else◌}
use Rattle.std.specs.Int.{w32, from_le_bytes, to_le_bytes}
use Rattle.std.specs.List.{list_all, list_any, flat_map}
use Rattle.std.specs.Str.{bytes_eq, is_utf8}
use Rattle.dv_value.specs.Names.{has_zero}
use Rattle.dv_bson.specs.Reading.{cut_at_zero}

-- the int32 after the first n bytes, as an unsigned number
abbrev pub number_after : ℕ → List ℕ → ℕ
number_after n bytes = from_le_bytes w32 (take 4 (drop n bytes))

-- ---- sections

-- the body of a command, as the bytes of its document (kind 0); or a list, as its name and the bytes of each document (kind 1)
pub data Section : Type 0 where
  body : List ℕ → Section
  named : List ℕ → List (List ℕ) → Section

-- an int32 with the total length, its own four bytes included; then the bytes
unfoldable pub sized : List ℕ → List ℕ
sized bytes = to_le_bytes w32 (length bytes + 4) ++ bytes

-- documents, one after the other
abbrev pub row_spelling : List (List ℕ) → List ℕ
row_spelling documents = flat_map (λ d. d) documents

-- the encoding of a section: the kind and the body; or the kind, the length, the name with a zero byte, and the documents
abbrev pub section_spelling : Section → List ℕ
section_spelling (body document) = 0 ∷ document
section_spelling (named name documents) = 1 ∷ sized (name ++ 0 ∷ row_spelling documents)

-- the encodings of sections, one after the other
abbrev pub sections_spelling : List Section → List ℕ
sections_spelling sections = flat_map section_spelling sections

-- whether the int32 at the start of a document is the number of its bytes, which is at least 5
abbrev pub is_framed : List ℕ → Bool
is_framed bytes = nat_lt 4 (length bytes) && number_after 0 bytes == length bytes

-- whether a section is valid: its documents have their own lengths; a name is UTF-8 and contains no zero byte
abbrev pub is_section : Section → Bool
is_section (body document) = is_framed document
is_section (named name documents) = is_utf8 name && not (has_zero name) && list_all is_framed documents

-- the number of bodies
abbrev pub body_count : List Section → ℕ
body_count [] = 0
body_count (body document ∷ sections) = suc (body_count sections)
body_count (named name documents ∷ sections) = body_count sections

-- the names of the lists
abbrev pub names_among : List Section → List (List ℕ)
names_among [] = []
names_among (body document ∷ sections) = names_among sections
names_among (named name documents ∷ sections) = name ∷ names_among sections

-- whether no two of the names are equal
abbrev pub are_distinct : List (List ℕ) → Bool
are_distinct [] = true
are_distinct (name ∷ names) = not (list_any (bytes_eq name) names) && are_distinct names

-- whether exactly one section is a body, and the names of the lists are distinct
abbrev pub go_together : List Section → Bool
go_together sections = body_count sections == 1 && are_distinct (names_among sections)

-- whether these are the sections of a valid message
abbrev pub are_sections : List Section → Bool
are_sections sections = list_all is_section sections && go_together sections

-- ---- lists of items in bytes

-- the item in front of the others, if these could be read
abbrev pub onto : {A : Type 0} → A → Option (List A) → Option (List A)
onto first None = None
onto first (Some others) = Some (first ∷ others)

-- the item that was read, followed by those in the bytes after it
abbrev pub row_from : {A : Type 0} → Option (A × List ℕ) → (List ℕ → Option (List A)) → Option (List A)
row_from None others = None
row_from (Some found) others = onto found.0 (others found.1)

-- the items of which the bytes consist, read in at most this many steps
unfoldable pub row_within : {A : Type 0} → (List ℕ → Option (A × List ℕ)) → ℕ → List ℕ → Option (List A)
row_within at_front steps [] = Some []
row_within at_front zero (b ∷ bytes) = None
row_within at_front (suc steps) (b ∷ bytes) = row_from (at_front (b ∷ bytes)) (row_within at_front steps)

-- The items of which the bytes consist: `at_front` reads one item at the start of bytes, and returns the bytes after it. None if an
-- item can't be read. Each item takes at least one byte, so the number of bytes is enough as a limit of the steps.
unfoldable pub each_in : {A : Type 0} → (List ℕ → Option (A × List ℕ)) → List ℕ → Option (List A)
each_in at_front bytes = row_within at_front (length bytes) bytes

-- ---- reading sections

-- the bytes that the length at the start covers, itself included, and the bytes after them; none if it is below 5 or there are too few
-- bytes
unfoldable pub section_frame : List ℕ → Option (List ℕ × List ℕ)
section_frame bytes =
    if nat_lt 4 (number_after 0 bytes) && nat_le (number_after 0 bytes) (length bytes)
    then Some (take (number_after 0 bytes) bytes, drop (number_after 0 bytes) bytes)
    else None

-- the documents of which the bytes consist
abbrev pub section_documents : List ℕ → Option (List (List ℕ))
section_documents bytes = each_in section_frame bytes

-- the section with this name and these documents, if the name is UTF-8
abbrev pub section_under : List ℕ → Option (List (List ℕ)) → Option Section
section_under name None = None
section_under name (Some documents) = if is_utf8 name then Some (named name documents) else None

-- the section with this name, and the documents after it
abbrev pub section_named : Option (List ℕ × List ℕ) → Option Section
section_named None = None
section_named (Some cut) = section_under cut.0 (section_documents cut.1)

-- the section of this kind with these bytes, which begin with their length
abbrev pub section_of : ℕ → List ℕ → Option Section
section_of kind frame =
    if kind == 0 then Some (body frame)
    else if kind == 1 then section_named (cut_at_zero (drop 4 frame))
    else None

-- the section and the bytes after it
abbrev pub followed : Option Section → List ℕ → Option (Section × List ℕ)
followed None following = None
followed (Some section) following = Some (section, following)

-- the section of this kind, and the bytes after it
abbrev pub section_by : ℕ → Option (List ℕ × List ℕ) → Option (Section × List ℕ)
section_by kind None = None
section_by kind (Some frame) = followed (section_of kind frame.0) frame.1

-- the section at the start of the bytes, and the bytes after it
unfoldable pub section_at : List ℕ → Option (Section × List ℕ)
section_at [] = None
section_at (kind ∷ bytes) = section_by kind (section_frame bytes)

-- the sections, if they are one body and lists with distinct names
abbrev pub sections_together : Option (List Section) → Option (List Section)
sections_together None = None
sections_together (Some sections) = if go_together sections then Some sections else None

-- the sections of which the bytes of a message consist, if they are valid
unfoldable pub sections_in : List ℕ → Option (List Section)
sections_in bytes = sections_together (each_in section_at bytes)
