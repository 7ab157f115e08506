-- The worked examples, computed.
use Rattle.std.proofs.Common.{◌≡◌, true, [], ◌∷◌, ◌++◌, refl, lit<}
use Rattle.std.specs.List.{list_all}
use Rattle.std.specs.Str.{is_utf8}
use Rattle.dv_bson.specs.Reading.{cut_at_zero}
use Rattle.dv_message.specs.Sections.{body, named, sized, is_section, are_sections, row_within, each_in, section_frame, section_at, sections_in}
use Rattle.dv_message.specs.Message.{stream_front, split_within, split}
use Rattle.dv_message.proofs.Together.{sections_found, sections_refused}
use Rattle.dv_message.specs.Inner.Examples.{Are, AreNone, empty_document, nothing_under, HeaderExamples, SectionExamples}
use Rattle.dv_value.specs.Inner.ByteLaws.{is_text}

pub headers : HeaderExamples
unfolding split split_within stream_front sections_in each_in row_within section_at section_frame
headers = record {
  shown_later = refl;
  too_short = refl;
  shortest = refl;
  longest = refl;
  too_long = refl;
  length_first = refl;
  code_later = refl;
  code_below = refl;
  code_right = refl;
  code_above = refl;
  flags_later = refl;
  bit_0 = refl;
  bit_1 = refl;
  bit_2 = refl;
  bit_15 = refl;
  bit_16 = refl;
  bits_above = refl;
  checksum_first = refl;
}

d_text : is_utf8 (100 ∷ []) ≡ true
d_text = is_text (100 ∷ []) refl

e_text : is_utf8 (101 ∷ []) ≡ true
e_text = is_text (101 ∷ []) refl

two_documents_found : Are (0 ∷ (empty_document ++ 1 ∷ 16 ∷ 0 ∷ 0 ∷ 0 ∷ 100 ∷ 0 ∷ (empty_document ++ empty_document))) (body empty_document ∷ named (100 ∷ []) (empty_document ∷ empty_document ∷ []) ∷ [])
unfolding sized
two_documents_found =
    let are : are_sections (body empty_document ∷ named (100 ∷ []) (empty_document ∷ empty_document ∷ []) ∷ []) ≡ true = rw d_text refl in
    sections_found (body empty_document ∷ named (100 ∷ []) (empty_document ∷ empty_document ∷ []) ∷ []) are (lit< tt)

two_names_found : Are (nothing_under 100 ++ nothing_under 101 ++ 0 ∷ empty_document) (named (100 ∷ []) [] ∷ named (101 ∷ []) [] ∷ body empty_document ∷ [])
unfolding sized
two_names_found =
    let are : are_sections (named (100 ∷ []) [] ∷ named (101 ∷ []) [] ∷ body empty_document ∷ []) ≡ true = rw (d_text, e_text) refl in
    sections_found (named (100 ∷ []) [] ∷ named (101 ∷ []) [] ∷ body empty_document ∷ []) are (lit< tt)

one_name_refused : AreNone (nothing_under 100 ++ nothing_under 100 ++ 0 ∷ empty_document)
unfolding sized
one_name_refused =
    let all : list_all is_section (named (100 ∷ []) [] ∷ named (100 ∷ []) [] ∷ body empty_document ∷ []) ≡ true = rw d_text refl in
    sections_refused (named (100 ∷ []) [] ∷ named (100 ∷ []) [] ∷ body empty_document ∷ []) all refl (lit< tt)

pub sections : SectionExamples
unfolding split split_within stream_front sections_in each_in row_within section_at section_frame cut_at_zero
sections = record {
  shown_later = refl;
  kind_2 = refl;
  kind_0 = refl;
  in_front = rw d_text refl;
  behind = rw d_text refl;
  two_documents = two_documents_found;
  two_names = two_names_found;
  one_name_twice = one_name_refused;
  no_body = rw d_text refl;
  size_too_small = refl;
  size_too_large = refl;
  name_without_end = refl;
  document_too_long = refl;
  two_bodies = refl;
  too_short = refl;
  too_long = refl;
  least_document = refl;
  no_document = refl;
  unreadable = refl;
  two = refl;
  fault_behind = refl;
}
