-- Documents that are walked through, as their lengths frame them.
use Rattle.std.proofs.Common.{◌≡◌, ℕ, zero, suc, ◌<◌, ◌≤◌, List, [], ◌∷◌, ◌++◌, length, Option, Some, None, refl, sym, ap, ◌∙◌, arith}
use Rattle.dv_message.specs.Sections.{section_frame, section_documents, each_in}
use Rattle.dv_message.specs.Inner.SectionsView.{frames_from, frames_within, frames_in}
use Rattle.dv_message.proofs.Rows.{Comes, begins, at_end, goes_on, fails, row_nothing, row_nowhere, row_first, onto_some}
use Rattle.dv_message.proofs.Frames.{frames_advance}

nothing_framed : section_frame [] ≡ None
unfolding section_frame
nothing_framed = refl

no_frames : (steps : ℕ) → frames_within steps [] ≡ []
unfolding frames_within
no_frames zero = refl
no_frames (suc steps) = ap (λ (front : Option (List ℕ × List ℕ)). frames_from front (frames_within steps)) nothing_framed

same_from : (front : Option (List ℕ × List ℕ)) (one two : List ℕ → List (List ℕ)) → ((frame rest : List ℕ) → front ≡ Some (frame, rest) → one rest ≡ two rest) → frames_from front one ≡ frames_from front two
same_from None one two same = refl
same_from (Some (frame, rest)) one two same = ap (λ (others : List (List ℕ)). frame ∷ others) (same frame rest refl)

-- more steps than there are bytes give the same
same_steps : (m n : ℕ) (bytes : List ℕ) → length bytes ≤ m → length bytes ≤ n → frames_within m bytes ≡ frames_within n bytes
unfolding frames_within
same_steps m n [] le le' = no_frames m ∙ sym (no_frames n)
same_steps zero n (b ∷ bytes) le le' = absurd (omega arith)
same_steps (suc m) zero (b ∷ bytes) le le' = absurd (omega arith)
same_steps (suc m) (suc n) (b ∷ bytes) le le' =
    same_from (section_frame (b ∷ bytes)) (frames_within m) (frames_within n) (λ frame rest e.
    let less = frames_advance.shorter (b ∷ bytes) frame rest e in same_steps m n rest (omega arith) (omega arith))

pub frames_first : (bytes frame rest : List ℕ) → section_frame bytes ≡ Some (frame, rest) → frames_in bytes ≡ frame ∷ frames_in rest
unfolding frames_in frames_within
frames_first [] frame rest e = let less = frames_advance.shorter [] frame rest e in absurd (omega arith)
frames_first (b ∷ bytes) frame rest e =
    let less = frames_advance.shorter (b ∷ bytes) frame rest e in
    ap (λ (front : Option (List ℕ × List ℕ)). frames_from front (frames_within (length bytes))) e
    ∙ ap (λ (others : List (List ℕ)). frame ∷ others) (same_steps (length bytes) (length rest) rest (omega arith) (omega arith))

pub frames_none : (bytes : List ℕ) → section_frame bytes ≡ None → frames_in bytes ≡ []
unfolding frames_in frames_within
frames_none [] e = refl
frames_none (b ∷ bytes) e = ap (λ (front : Option (List ℕ × List ℕ)). frames_from front (frames_within (length bytes))) e

-- if bytes consist of documents, these are the ones that they frame
frames_by : (steps : ℕ) (bytes : List ℕ) (documents : List (List ℕ)) (front : Option (List ℕ × List ℕ)) → length bytes ≤ steps → section_frame bytes ≡ front → section_documents bytes ≡ Some documents → documents ≡ frames_in bytes
frames_by steps [] documents front le is e =
    let none : [] ≡ documents = (let found = sym (row_nothing section_frame) ∙ e in cc) in
    sym none ∙ sym (frames_none [] nothing_framed)
frames_by zero (b ∷ bytes) documents front le is e = absurd (omega arith)
frames_by (suc steps) (b ∷ bytes) documents None le is e =
    let none : None ≡ Some documents = sym (row_nowhere section_frame frames_advance b bytes is) ∙ e in absurd cc
frames_by (suc steps) (b ∷ bytes) documents (Some (frame, rest)) le is e =
    let less = frames_advance.shorter (b ∷ bytes) frame rest is in
    let (others, behind, same) = onto_some frame (each_in section_frame rest) documents (sym (row_first section_frame frames_advance (b ∷ bytes) frame rest is) ∙ e) in
    sym same ∙ ap (λ (all : List (List ℕ)). frame ∷ all) (frames_by steps rest others (section_frame rest) (omega arith) refl behind) ∙ sym (frames_first (b ∷ bytes) frame rest is)

-- ---- as far as a walk has come

-- these documents are before the rest
pub record Passes (all rest : List ℕ) : Type 0 where
  pub found : List (List ℕ)
  pub comes : Comes section_frame all found rest

pub none_passed : (all : List ℕ) → Passes all all
none_passed all = record { found = []; comes = begins section_frame all }

module _ (all rest : List ℕ) (so_far : Passes all rest) where
  pub one_passed : (document behind : List ℕ) → section_frame rest ≡ Some (document, behind) → Passes all behind
  one_passed document behind e = record { found = so_far.found ++ document ∷ []; comes = goes_on section_frame frames_advance all so_far.found rest document behind so_far.comes e }

  pub all_passed : length rest ≡ 0 → Some (frames_in all) ≡ section_documents all
  all_passed none =
      let e = at_end section_frame all so_far.found rest so_far.comes none in
      ap Some (sym (frames_by (length all) all so_far.found (section_frame all) (omega arith) refl e)) ∙ sym e

  pub not_passed : section_frame rest ≡ None → 0 < length rest → section_documents all ≡ None
  not_passed e some = fails section_frame frames_advance all so_far.found rest so_far.comes e some
