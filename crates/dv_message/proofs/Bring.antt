-- A stream of bytes splits into messages of bytes.
use Rattle.std.proofs.Common.{◌≡◌, ℕ, zero, suc, ◌+◌, ◌<◌, List, [], ◌∷◌, ◌++◌, length, take, drop, refl, sym, subst, arith}
use Rattle.std.specs.Int.{w32, to_le_bytes}
use Rattle.std.specs.List.{AllByRecursion}
use Rattle.dv_value.specs.Spelling.{IsBytes}
use Rattle.dv_value.specs.Inner.ByteLaws.{IsBytes-take, IsBytes-drop}
use Rattle.dv_message.specs.Bytes.{BringsBytes, IsByteSplit}
use Rattle.dv_message.specs.Sections.{Section, body, named, sized, row_spelling, section_spelling, sections_spelling, number_after}
use Rattle.dv_message.specs.Message.{Message, StreamFront, unfinished, closing, whole, stream_front, split}
use Rattle.dv_message.proofs.Fronts.{front_shows}
use Rattle.dv_message.proofs.Bytes.{IsBytes-front, IsBytes-behind}
use Rattle.dv_message.proofs.Together.{sections_spelled}
use Rattle.dv_message.proofs.Streams.{following_shorter, split_unfinished, split_closing, split_whole}

documents_bytes : (documents : List (List ℕ)) → IsBytes (row_spelling documents) → AllByRecursion IsBytes documents
documents_bytes [] h = tt
documents_bytes (d ∷ ds) h = (IsBytes-front d (row_spelling ds) h, documents_bytes ds (IsBytes-behind d (row_spelling ds) h))

behind_size : (bytes : List ℕ) → IsBytes (sized bytes) → IsBytes bytes
unfolding sized
behind_size bytes h = IsBytes-behind (to_le_bytes w32 (length bytes + 4)) bytes h

section_bytes : (section : Section) → IsBytes (section_spelling section) → BringsBytes section
section_bytes (body document) h = λ i. h (suc i)
section_bytes (named name documents) h =
    let content : IsBytes (0 ∷ row_spelling documents) = IsBytes-behind name (0 ∷ row_spelling documents) (behind_size (name ++ 0 ∷ row_spelling documents) (λ i. h (suc i))) in
    documents_bytes documents (λ i. content (suc i))

sections_bytes : (sections : List Section) → IsBytes (sections_spelling sections) → AllByRecursion BringsBytes sections
sections_bytes [] h = tt
sections_bytes (section ∷ sections) h =
    (section_bytes section (IsBytes-front (section_spelling section) (sections_spelling sections) h), sections_bytes sections (IsBytes-behind (section_spelling section) (sections_spelling sections) h))

message_bytes : (bytes : List ℕ) (message : Message) (following : List ℕ) → IsBytes bytes → stream_front bytes ≡ whole message following → AllByRecursion BringsBytes message.sections × IsBytes following
message_bytes bytes message following h e =
    let f = front_shows bytes message following e in
    let n = number_after 0 bytes in
    let fits = IsBytes-drop 20 (take n bytes) (IsBytes-take n bytes h) in
    let spelled = sections_spelled (drop 20 (take n bytes)) message.sections fits f.sections_are in (
      sections_bytes message.sections (subst IsBytes spelled.0 fits),
      subst IsBytes f.following_is (IsBytes-drop n bytes h),
    )

split_bytes_within : (steps : ℕ) (bytes : List ℕ) → length bytes < steps → (f : StreamFront) → stream_front bytes ≡ f → IsBytes bytes → IsByteSplit (split bytes)
split_bytes_within zero bytes lt f e h = absurd (omega arith)
split_bytes_within (suc steps) bytes lt unfinished e h = subst IsByteSplit (sym (split_unfinished bytes e)) (record { bring = tt; keeps = h })
split_bytes_within (suc steps) bytes lt (closing fault) e h = subst IsByteSplit (sym (split_closing bytes fault e)) (record { bring = tt; keeps = tt })
split_bytes_within (suc steps) bytes lt (whole message following) e h =
    let shorter = following_shorter bytes message following e in
    let parts = message_bytes bytes message following h e in
    let others = split_bytes_within steps following (omega arith) (stream_front following) refl parts.1 in
    subst IsByteSplit (sym (split_whole bytes message following e)) (record { bring = (parts.0, others.bring); keeps = others.keeps })

pub split_bytes : (bytes : List ℕ) → IsBytes bytes → IsByteSplit (split bytes)
split_bytes bytes h = split_bytes_within (suc (length bytes)) bytes (omega arith) (stream_front bytes) refl h
