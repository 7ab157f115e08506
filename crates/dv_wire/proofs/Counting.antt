-- Answers, their bytes, and how many they are.
use Rattle.std.proofs.Common.{◌≡◌, ℕ, ◌+◌, ◌-◌, ◌^◌, ◌<◌, ◌≤◌, min, List, [], ◌∷◌, ◌++◌, length, sym, ap, ◌∙◌, append_assoc, arith}
use Rattle.std.specs.List.{concat}
use Rattle.std.proofs.lemmas.List.{length-append}
use Rattle.std.proofs.lemmas.List.Folds.{concat-append}
use Rattle.dv_wire.specs.declared.session.Counts.{Counts}
use Rattle.dv_wire.specs.Service.{reply_count}
use Rattle.dv_wire.specs.Inner.View.{Counted}

-- bytes of answers after those of others
pub answered_more : (old mid new : List ℕ) (one two : List (List ℕ)) → mid ≡ old ++ concat one → new ≡ mid ++ concat two → new ≡ old ++ concat (one ++ two)
answered_more old mid new one two first second =
    second ∙ ap (λ (b : List ℕ). b ++ concat two) first ∙ append_assoc old (concat one) (concat two) ∙ ap (λ (b : List ℕ). old ++ b) (sym (concat-append one two))

pub reply_count-append : (one two : List (List ℕ)) → reply_count (one ++ two) ≡ reply_count one + reply_count two
reply_count-append [] two = omega arith
reply_count-append ([] ∷ one) two = reply_count-append one two
reply_count-append ((b ∷ bytes) ∷ one) two = omega (arith, reply_count-append one two)

pub reply_count-le : (answers : List (List ℕ)) → reply_count answers ≤ length answers
reply_count-le [] = omega arith
reply_count-le ([] ∷ answers) = omega (arith, reply_count-le answers)
reply_count-le ((b ∷ bytes) ∷ answers) = omega (arith, reply_count-le answers)

pub Counted-none : (c : Counts) → Counted c [] c
Counted-none c = (λ fits. omega arith, λ fits. omega arith)

messages-append : (one two : List (List ℕ)) (c d e : Counts) → Counted c one d → Counted d two e → c.messages + length (one ++ two) < 2 ^ 64 → e.messages ≡ c.messages + length (one ++ two)
messages-append one two c d e first second fits =
    let all = length-append one two in
    let before = first.0 (omega (arith, all)) in
    let behind = second.0 (omega (arith, all, before)) in omega (arith, all, before, behind)

replies-append : (one two : List (List ℕ)) (c d e : Counts) → Counted c one d → Counted d two e → c.replies + reply_count (one ++ two) < 2 ^ 64 → e.replies ≡ c.replies + reply_count (one ++ two)
replies-append one two c d e first second fits =
    let all = reply_count-append one two in
    let before = first.1 (omega (arith, all)) in
    let behind = second.1 (omega (arith, all, before)) in omega (arith, all, before, behind)

pub Counted-append : (one two : List (List ℕ)) (c d e : Counts) → Counted c one d → Counted d two e → Counted c (one ++ two) e
Counted-append one two c d e first second = (messages-append one two c d e first second, replies-append one two c d e first second)

-- ---- one message more

pub Counted-unanswered : (c d : Counts) → d.messages ≡ min (c.messages + 1) (2 ^ 64 - 1) → d.replies ≡ c.replies → Counted c ([] ∷ []) d
Counted-unanswered c d message reply = (λ fits. omega (arith, message), λ fits. omega (arith, reply))

pub Counted-answered : (c d : Counts) (bytes : List ℕ) → d.messages ≡ min (c.messages + 1) (2 ^ 64 - 1) → d.replies ≡ min (c.replies + 1) (2 ^ 64 - 1) → 0 < length bytes → Counted c (bytes ∷ []) d
Counted-answered c d [] message reply some = absurd (omega (arith, some))
Counted-answered c d (b ∷ bytes) message reply some = (λ fits. omega (arith, message), λ fits. omega (arith, reply))
