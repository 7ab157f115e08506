-- Streams, message by message.
use Rattle.std.proofs.Common.{◌≡◌, ℕ, zero, suc, ◌≤◌, ◌<◌, List, [], ◌++◌, length, take, refl, sym, ap, ◌∙◌, arith}
use Rattle.std.proofs.lemmas.List.{length-drop, take-append-drop}
use Rattle.dv_message.specs.declared.fault.CloseFault.{CloseFault}
use Rattle.dv_message.specs.Sections.{number_after}
use Rattle.dv_message.specs.Message.{Message, StreamFront, unfinished, closing, whole, stream_front, reading, closed, Split, split_behind, split_from, split_within, split}
use Rattle.dv_message.proofs.Fronts.{front_shows}

-- what follows a message is the last part of the bytes
pub behind_message : (bytes : List ℕ) (message : Message) (following : List ℕ) → stream_front bytes ≡ whole message following → (taken : List ℕ) × (bytes ≡ taken ++ following) × (length following < length bytes)
behind_message bytes message following e =
    let f = front_shows bytes message following e in
    let n = number_after 0 bytes in
    (take n bytes, sym (take-append-drop n bytes) ∙ ap (λ (x : List ℕ). take n bytes ++ x) f.following_is, omega (arith, ap length f.following_is, f.all, f.least, length-drop n bytes))

pub following_shorter : (bytes : List ℕ) (message : Message) (following : List ℕ) → stream_front bytes ≡ whole message following → length following < length bytes
following_shorter bytes message following e = (behind_message bytes message following e).2

same_from : (bytes : List ℕ) (f : StreamFront) (F G : List ℕ → Split) → ((message : Message) (following : List ℕ) → f ≡ whole message following → F following ≡ G following) → split_from bytes f F ≡ split_from bytes f G
same_from bytes unfinished F G same = refl
same_from bytes (closing fault) F G same = refl
same_from bytes (whole message following) F G same = ap (split_behind message) (same message following refl)

-- more steps than there are bytes give the same
same_steps : (m n : ℕ) (bytes : List ℕ) → length bytes < m → length bytes < n → split_within m bytes ≡ split_within n bytes
unfolding split_within
same_steps zero n bytes lt lt' = absurd (omega arith)
same_steps (suc m) zero bytes lt lt' = absurd (omega arith)
same_steps (suc m) (suc n) bytes lt lt' =
    same_from bytes (stream_front bytes) (split_within m) (split_within n) (λ message following e.
    let shorter = following_shorter bytes message following e in same_steps m n following (omega arith) (omega arith))

pub split_step : (bytes : List ℕ) → split bytes ≡ split_from bytes (stream_front bytes) split
unfolding split split_within
split_step bytes =
    same_from bytes (stream_front bytes) (split_within (length bytes)) split (λ message following e.
    let shorter = following_shorter bytes message following e in same_steps (length bytes) (suc (length following)) following (omega arith) (omega arith))

pub split_unfinished : (bytes : List ℕ) → stream_front bytes ≡ unfinished → split bytes ≡ record { messages = []; conversation = reading bytes }
split_unfinished bytes e = split_step bytes ∙ rw e refl

pub split_closing : (bytes : List ℕ) (fault : CloseFault) → stream_front bytes ≡ closing fault → split bytes ≡ record { messages = []; conversation = closed fault }
split_closing bytes fault e = split_step bytes ∙ rw e refl

pub split_whole : (bytes : List ℕ) (message : Message) (following : List ℕ) → stream_front bytes ≡ whole message following → split bytes ≡ split_behind message (split following)
split_whole bytes message following e = split_step bytes ∙ rw e refl

-- ---- no more messages than bytes

few_within : (steps : ℕ) (bytes : List ℕ) → length bytes < steps → (f : StreamFront) → stream_front bytes ≡ f → length (split bytes).messages ≤ length bytes
few_within zero bytes lt f e = absurd (omega arith)
few_within (suc steps) bytes lt unfinished e = omega (arith, ap (λ (s : Split). length s.messages) (split_unfinished bytes e))
few_within (suc steps) bytes lt (closing fault) e = omega (arith, ap (λ (s : Split). length s.messages) (split_closing bytes fault e))
few_within (suc steps) bytes lt (whole message following) e =
    let shorter = following_shorter bytes message following e in
    let others = few_within steps following (omega arith) (stream_front following) refl in
    omega (arith, ap (λ (s : Split). length s.messages) (split_whole bytes message following e), shorter, others)

pub messages_few : (bytes : List ℕ) → length (split bytes).messages ≤ length bytes
messages_few bytes = few_within (suc (length bytes)) bytes (omega arith) (stream_front bytes) refl
