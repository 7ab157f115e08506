-- The sections of a message, in both directions.
use Rattle.std.proofs.Common.{◌≡◌, ℕ, ◌-◌, ◌^◌, ◌<◌, ◌≤◌, true, false, eqb, List, [], ◌∷◌, length, slice_index_or, take, drop, Option, Some, None, refl, sym, ap, ◌∙◌, arith}
use Rattle.std.specs.List.{list_all}
use Rattle.std.proofs.lemmas.Bool.{eqb-true, and_parts}
use Rattle.std.proofs.lemmas.List.{length-append, nil_from_length, take_all}
use Rattle.dv_value.specs.Spelling.{IsBytes}
use Rattle.dv_message.specs.Sections.{Section, body, named, section_spelling, sections_spelling, is_section, body_count, names_among, are_distinct, go_together, are_sections, onto, each_in, section_frame, section_by, section_at, sections_together, sections_in}
use Rattle.dv_message.proofs.Rows.{row_nothing, row_first, row_spelled, row_found}
use Rattle.dv_message.proofs.Frames.{some_if, sections_advance, sections_are_spelled, framed_least}

together_are : (found : Option (List Section)) (sections : List Section) → sections_together found ≡ Some sections → (found ≡ Some sections) × (go_together sections ≡ true)
together_are None sections e = absurd cc
together_are (Some ss) sections e =
    let one = some_if (go_together ss) ss sections e in
    (ap Some one.1, ap go_together (sym one.1) ∙ one.0)

pub sections_spelled : (bytes : List ℕ) (sections : List Section) → IsBytes bytes → sections_in bytes ≡ Some sections → (bytes ≡ sections_spelling sections) × (are_sections sections ≡ true)
unfolding sections_in
sections_spelled bytes sections h e =
    let one = together_are (each_in section_at bytes) sections e in
    let row = row_spelled section_at section_spelling is_section sections_advance sections_are_spelled bytes sections h one.0 in
    (row.0, rw (row.1, one.1) refl)

pub sections_found : (sections : List Section) → are_sections sections ≡ true → length (sections_spelling sections) < 2 ^ 32 → sections_in (sections_spelling sections) ≡ Some sections
unfolding sections_in
sections_found sections are fits =
    let parts = and_parts (list_all is_section sections) (go_together sections) are in
    ap sections_together (row_found section_at section_spelling is_section sections_advance sections_are_spelled sections parts.0 fits) ∙ rw (parts.1) refl

pub sections_refused : (sections : List Section) → list_all is_section sections ≡ true → go_together sections ≡ false → length (sections_spelling sections) < 2 ^ 32 → sections_in (sections_spelling sections) ≡ None
unfolding sections_in
sections_refused sections all apart fits =
    ap sections_together (row_found section_at section_spelling is_section sections_advance sections_are_spelled sections all fits) ∙ rw apart refl

long_among : (sections : List Section) → list_all is_section sections ≡ true → 1 ≤ body_count sections → 6 ≤ length (sections_spelling sections)
long_among [] all some = absurd (omega arith)
long_among (body document ∷ sections) all some =
    let framed = framed_least document (and_parts (is_section (body document)) (list_all is_section sections) all).0 in
    omega (arith, length-append (0 ∷ document) (sections_spelling sections))
long_among (named name documents ∷ sections) all some =
    let behind = long_among sections (and_parts (is_section (named name documents)) (list_all is_section sections) all).1 some in
    omega (arith, length-append (section_spelling (named name documents)) (sections_spelling sections))

-- a kind byte, and the smallest document
pub sections_long : (sections : List Section) → are_sections sections ≡ true → 6 ≤ length (sections_spelling sections)
sections_long sections are =
    let parts = and_parts (list_all is_section sections) (go_together sections) are in
    let one = eqb-true (body_count sections) 1 (and_parts (eqb (body_count sections) 1) (are_distinct (names_among sections)) parts.1).0 in
    long_among sections parts.0 (omega arith)

section_alone : (bytes frame : List ℕ) → section_frame bytes ≡ Some (frame, []) → section_at (0 ∷ bytes) ≡ Some (body frame, [])
unfolding section_at
section_alone bytes frame e = ap (section_by 0) e

-- a body and nothing else
body_alone : (bytes frame : List ℕ) → section_frame bytes ≡ Some (frame, []) → sections_in (0 ∷ bytes) ≡ Some (body frame ∷ [])
unfolding sections_in
body_alone bytes frame e =
    ap sections_together (row_first section_at sections_advance (0 ∷ bytes) (body frame) [] (section_alone bytes frame e))
    ∙ ap (λ (others : Option (List Section)). sections_together (onto (body frame) others)) (row_nothing section_at)

pub body_shown : (bytes frame following : List ℕ) → 1 ≤ length bytes → slice_index_or bytes 0 0 ≡ 0 → section_frame (take (length bytes - 1) (drop 1 bytes)) ≡ Some (frame, following) → length following ≡ 0
    → sections_in bytes ≡ Some (body frame ∷ [])
body_shown [] frame following some kind e none = absurd (omega arith)
body_shown (b ∷ bytes) frame following some kind e none =
    let is_body : b ≡ 0 = kind in
    let count : length (b ∷ bytes) - 1 ≡ length bytes = omega arith in
    let behind : take (length (b ∷ bytes) - 1) bytes ≡ bytes = ap (λ (n : ℕ). take n bytes) count ∙ take_all (length bytes) bytes (omega arith) in
    let last : following ≡ [] = nil_from_length following none in
    let framed : section_frame bytes ≡ Some (frame, []) = ap section_frame (sym behind) ∙ e ∙ ap (λ (rest : List ℕ). Some (frame, rest)) last in
    ap (λ (k : ℕ). sections_in (k ∷ bytes)) is_body ∙ body_alone bytes frame framed
