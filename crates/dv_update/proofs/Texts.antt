-- A text that is cut at its dots: each part is a text.
use Rattle.std.proofs.Common.{◌≡◌, sym, refl, subst, ℕ, ◌+◌, ◌<◌, ◌==◌, Bool, true, false, cond, List, [], ◌∷◌, ◌++◌, length, get_or, append_assoc, append-nil, length-append, arith}
use Rattle.std.proofs.Math.Seq.{take-append_seam, drop-append-add, get_or-append_seam}
use Rattle.std.proofs.lemmas.Bool.Decides.{nat_tests}
use Rattle.std.proofs.lemmas.Str.{IsUtf8-take, IsUtf8-drop, IsCharBoundary-before_ascii, IsCharBoundary-after_ascii}
use Rattle.std.specs.List.{AllByRecursion, onto_first, slice_split}
use Rattle.std.specs.Str.{IsUtf8}

abbrev parts : List ℕ → List (List ℕ)
parts text = slice_split (λ b. b == 46) text

-- parts that are texts, the first one with `front` before it
abbrev AreTexts : List ℕ → List (List ℕ) → Type 0
AreTexts front [] = ⊥
AreTexts front (part ∷ parts) = IsUtf8 (front ++ part) × AllByRecursion IsUtf8 parts

texts_all : (parts : List (List ℕ)) → AreTexts [] parts → AllByRecursion IsUtf8 parts
texts_all [] texts = absurd texts
texts_all (part ∷ parts) texts = texts

texts_onto : (front : List ℕ) (b : ℕ) (parts : List (List ℕ)) → AreTexts (front ++ b ∷ []) parts → AreTexts front (onto_first b parts)
texts_onto front b [] texts = absurd texts
texts_onto front b (part ∷ parts) texts = (subst IsUtf8 (append_assoc front (b ∷ []) part) texts.0, texts.1)

-- on either side of an ASCII byte is a text
module _ (front rest : List ℕ) (b : ℕ) (ascii : b < 128) (text : IsUtf8 (front ++ b ∷ rest)) where
  within : length front < length (front ++ b ∷ rest)
  within = omega (arith, length-append front (b ∷ rest))

  here : get_or (front ++ b ∷ rest) (length front) 0 < 128
  here = omega (arith, get_or-append_seam front b rest 0)

  before : IsUtf8 front
  before = subst IsUtf8 (take-append_seam front (b ∷ rest)) (IsUtf8-take (front ++ b ∷ rest) (length front) text (IsCharBoundary-before_ascii (front ++ b ∷ rest) (length front) within here))

  behind : IsUtf8 rest
  behind = subst IsUtf8 (drop-append-add front (b ∷ rest) 1) (IsUtf8-drop (front ++ b ∷ rest) (length front + 1) text (IsCharBoundary-after_ascii (front ++ b ∷ rest) (length front) text within here))

cut_texts : (b : ℕ) (bs front : List ℕ) (dot : Bool) → (b == 46) ≡ dot → IsUtf8 (front ++ b ∷ bs) → ((front : List ℕ) → IsUtf8 (front ++ bs) → AreTexts front (parts bs)) → AreTexts front (cond dot ([] ∷ parts bs) (onto_first b (parts bs)))
cut_texts b bs front true is text later =
    let ascii : b < 128 = grind (arith, nat_tests) in
    (subst IsUtf8 (sym (append-nil front)) (before front bs b ascii text), texts_all (parts bs) (later [] (behind front bs b ascii text)))
cut_texts b bs front false is text later = texts_onto front b (parts bs) (later (front ++ b ∷ []) (subst IsUtf8 (sym (append_assoc front (b ∷ []) bs)) text))

parts_texts : (bs front : List ℕ) → IsUtf8 (front ++ bs) → AreTexts front (parts bs)
parts_texts [] front text = (text, tt)
parts_texts (b ∷ bs) front text = cut_texts b bs front (b == 46) refl text (parts_texts bs)

pub IsUtf8-parts : (text : List ℕ) → IsUtf8 text → AllByRecursion IsUtf8 (slice_split (λ b. b == 46) text)
IsUtf8-parts text is = texts_all (parts text) (parts_texts text [] is)
