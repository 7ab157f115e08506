-- The one thing that a line says.
use Rattle.std.proofs.Common.{◌≡◌, ◌≢◌, ℕ, ◌<◌, ◌≤◌, ◌⊎◌, inl, inr, List, ◌∷◌, ◌++◌, length, codes, decimal, Result, Ok, Err, refl, sym, ap, ◌∙◌, subst}
use Rattle.std.specs.Prelude.{◌↔◌, IfOk}
use Rattle.dv_words.specs.Line.{HasForm, IsHexOf, IsLine, IsSkipped}
use Rattle.dv_words.specs.Inner.Reading.{Decodes}
use Rattle.dv_words.specs.declared.said.Line.{Line}
use Rattle.dv_words.specs.declared.said.Line.TheVariants.{Skip, Bytes, End}
use Rattle.dv_words.specs.declared.said.LineFault.{LineFault}
use Rattle.dv_words.specs.declared.said.LineFault.TheVariants.{BadLine, NoMemory}
use Rattle.dv_words.proofs.Numbers.{decimal_once, not_skipped}
use Rattle.dv_words.proofs.Pairs.{hex_once, end_is_no_hex}

-- ---- what is promised of a result

pub record Answers (text : List ℕ) (result : Result Line LineFault) : Type 0 where
  pub read : IfOk result (λ found. IsLine found text)
  pub only : (meant : Line) → IsLine meant text → (result ≡ Ok meant) ⊎ (result ≡ Err NoMemory)
  pub refused : (result ≡ Err BadLine) ↔ ((meant : Line) → IsLine meant text → ⊥)

pub answers_line : (line : Line) (text : List ℕ) → IsLine line text → ((meant : Line) → HasForm meant text → line ≡ meant) → Answers text (Ok line)
answers_line line text is only = record {
  read = is;
  only = λ meant h. inl (ap Ok (only meant h.form));
  refused = (λ e. cc, λ none. absurd (none line is));
}

pub answers_bad : (text : List ℕ) → ((meant : Line) → IsLine meant text → ⊥) → Answers text (Err BadLine)
answers_bad text none = record {
  read = tt;
  only = λ meant h. absurd (none meant h);
  refused = (λ e. none, λ h. refl);
}

pub answers_memory : (line : Line) (text : List ℕ) → IsLine line text → Answers text (Err NoMemory)
answers_memory line text is = record {
  read = tt;
  only = λ meant h. inr refl;
  refused = (λ e. cc, λ none. absurd (none line is));
}

-- ---- lines with a number

-- what a line says that has a number before a space, and `rest` after it
abbrev Says : ℕ → List ℕ → Line → Type 0
Says n rest Skip = ⊥
Says n rest (Bytes m bytes) = (m ≡ n) × IsHexOf bytes rest
Says n rest (End m) = (m ≡ n) × (rest ≡ codes "end")

says : (n : ℕ) (rest text : List ℕ) → n < 1000 → text ≡ decimal n ++ 32 ∷ rest → (meant : Line) → HasForm meant text → Says n rest meant
says n rest text small e Skip h = not_skipped n rest text small e h
says n rest text small e (Bytes m bytes) h =
    let same = decimal_once m n h.1.0 rest text h.0 small h.1.1 e in
    (same.0, subst (IsHexOf bytes) same.1 h.1.2)
says n rest text small e (End m) h =
    let same = decimal_once m n (codes "end") rest text h.0 small h.1 e in
    (same.0, sym same.1)

pub skip_only : (text : List ℕ) → IsSkipped text → (meant : Line) → HasForm meant text → Skip ≡ meant
skip_only text skipped Skip h = refl
skip_only text skipped (Bytes m bytes) h = absurd (not_skipped m h.1.0 text h.0 h.1.1 skipped)
skip_only text skipped (End m) h = absurd (not_skipped m (codes "end") text h.0 h.1 skipped)

end_says : (n : ℕ) (rest : List ℕ) → rest ≡ codes "end" → (meant : Line) → Says n rest meant → End n ≡ meant
end_says n rest e Skip h = absurd h
end_says n rest e (Bytes m bytes) h = absurd (end_is_no_hex bytes (subst (IsHexOf bytes) e h.1))
end_says n rest e (End m) h = ap End (sym h.0)

bytes_say : (n : ℕ) (rest bytes : List ℕ) → IsHexOf bytes rest → (meant : Line) → Says n rest meant → Bytes n bytes ≡ meant
bytes_say n rest bytes hex Skip h = absurd h
bytes_say n rest bytes hex (Bytes m others) h =
    let same = hex_once bytes others rest hex h.1 in
    let number = h.0 in
    cc
bytes_say n rest bytes hex (End m) h = absurd (end_is_no_hex bytes (subst (IsHexOf bytes) h.1 hex))

nothing_says : (n : ℕ) (rest : List ℕ) → rest ≢ codes "end" → ((bytes : List ℕ) → IsHexOf bytes rest → ⊥) → (meant : Line) → Says n rest meant → ⊥
nothing_says n rest ne none Skip h = h
nothing_says n rest ne none (Bytes m bytes) h = none bytes h.1
nothing_says n rest ne none (End m) h = ne h.1

-- ---- the results

-- a line with a number that isn't too long
pub record Numbered (n : ℕ) (rest text : List ℕ) : Type 0 where
  pub small : n < 1000
  pub whole : text ≡ decimal n ++ 32 ∷ rest
  pub limit : length text ≤ 131200

pub numbered : (n : ℕ) (rest text : List ℕ) → (n < 1000) × (text ≡ decimal n ++ 32 ∷ rest) → length text ≤ 131200 → Numbered n rest text
numbered n rest text h limit = record { small = h.0; whole = h.1; limit = limit }

pub answers_skip : (text : List ℕ) → IsSkipped text → length text ≤ 131200 → Answers text (Ok Skip)
answers_skip text skipped limit = answers_line Skip text (record { form = skipped; limit = limit }) (skip_only text skipped)

pub answers_end : (n : ℕ) (rest text : List ℕ) → Numbered n rest text → rest ≡ codes "end" → Answers text (Ok (End n))
answers_end n rest text h e =
    let whole : text ≡ decimal n ++ codes " end" = h.whole ∙ ap (λ xs. decimal n ++ 32 ∷ xs) e in
    answers_line (End n) text (record { form = (h.small, whole); limit = h.limit })
    (λ meant form. end_says n rest e meant (says n rest text h.small h.whole meant form))

bytes_are_line : (n : ℕ) (rest text bytes : List ℕ) → Numbered n rest text → IsHexOf bytes rest → IsLine (Bytes n bytes) text
bytes_are_line n rest text bytes h hex = record { form = (h.small, (rest, h.whole, hex)); limit = h.limit }

pub answers_bytes : (n : ℕ) (rest text bytes : List ℕ) → Numbered n rest text → IsHexOf bytes rest → Answers text (Ok (Bytes n bytes))
answers_bytes n rest text bytes h hex = answers_line (Bytes n bytes) text (bytes_are_line n rest text bytes h hex)
    (λ meant form. bytes_say n rest bytes hex meant (says n rest text h.small h.whole meant form))

-- if pairs are read after a number, their faults are passed on
pub answers_fault : (n : ℕ) (rest text : List ℕ) (fault : LineFault) → Numbered n rest text → rest ≢ codes "end" → Decodes rest (Err fault) → Answers text (Err fault)
answers_fault n rest text BadLine h ne none = answers_bad text
    (λ meant is. nothing_says n rest ne none meant (says n rest text h.small h.whole meant is.form))
answers_fault n rest text NoMemory h ne some = answers_memory (Bytes n some.0) text (bytes_are_line n rest text some.0 h some.1)
