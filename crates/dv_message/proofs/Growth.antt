-- What the front of a stream shows stays the same if more bytes follow.
use Rattle.std.proofs.Common.{◌≡◌, ℕ, zero, suc, ◌≤◌, ◌<◌, ◌⊎◌, Bool, true, false, ◌||◌, not, cond, ltb, eqb, List, ◌++◌, length, take, drop, Option, Some, None, refl, sym, ap, subst, ◌∙◌, arith, inl, inr}
use Rattle.std.proofs.lemmas.Bool.{cases_Bool, ltb-false, le-ltb}
use Rattle.std.proofs.lemmas.List.{length-append, drop-append-le, take-append-le}
use Rattle.dv_message.specs.declared.fault.CloseFault.{CloseFault}
use Rattle.dv_message.specs.declared.fault.CloseFault.TheVariants.{BadLength, BadOpCode, BadFlag, Checksum}
use Rattle.dv_message.specs.Sections.{Section, number_after, sections_in}
use Rattle.dv_message.specs.Message.{Message, StreamFront, unfinished, closing, whole, front_by, stream_front, has_checksum, has_unknown_flag, Conversation, reading, closed, Split, split_behind, split, continuation}
use Rattle.dv_message.proofs.Bytes.{number_same}
use Rattle.dv_message.proofs.Streams.{following_shorter, split_unfinished, split_closing, split_whole}

abbrev longer : StreamFront → List ℕ → StreamFront
longer unfinished more = unfinished
longer (closing fault) more = closing fault
longer (whole message following) more = whole message (following ++ more)

-- before, the front was not yet shown; or now the same is shown
abbrev Stays : StreamFront → StreamFront → List ℕ → Type 0
Stays before now more = (before ≡ unfinished) ⊎ (now ≡ longer before more)

needs : (n : ℕ) (a b : List ℕ) (before now : StreamFront) → (n ≤ length a → Stays before now b) → Stays (cond (ltb (length a) n) unfinished before) (cond (ltb (length (a ++ b)) n) unfinished now) b
needs n a b before now stays =
    elim (cases_Bool (ltb (length a) n)) [
      | inl e ↦ rw e (inl refl)
      | inr e ↦ let le : n ≤ length a = ltb-false _ _ e in rw (e, le-ltb (length (a ++ b)) n (omega (arith, length-append a b))) (stays le)
    ]

tests : (before_test now_test : Bool) (fault : CloseFault) (before now : StreamFront) (more : List ℕ) → now_test ≡ before_test → (before_test ≡ false → Stays before now more)
    → Stays (cond before_test (closing fault) before) (cond now_test (closing fault) now) more
tests true now_test fault before now more e stays = rw e (inr refl)
tests false now_test fault before now more e stays = rw e (stays refl)

-- the sections show the same
sections_stay : (id id' flags flags' : ℕ) (read read' : Option (List Section)) (r r' more : List ℕ) → id' ≡ id → flags' ≡ flags → read' ≡ read → r' ≡ r ++ more
    → Stays (front_by id flags read r) (front_by id' flags' read' r') more
sections_stay id id' flags flags' None read' r r' more same_id same_flags same_read same_rest = inr (rw same_read refl)
sections_stay id id' flags flags' (Some sections) read' r r' more same_id same_flags same_read same_rest = inr (rw (same_id, same_flags, same_read, same_rest) refl)

-- what is shown after the flags
abbrev shown_by : ℕ → List ℕ → StreamFront
shown_by n bytes =
    cond (ltb (length bytes) n) unfinished (front_by (number_after 4 bytes) (number_after 16 bytes) (sections_in (drop 20 (take n bytes))) (drop n bytes))

pub front_stays : (a b : List ℕ) → Stays (stream_front a) (stream_front (a ++ b)) b
unfolding stream_front
front_stays a b =
    needs 4 a b _ _ (λ four. let n_same = number_same 0 a b four in
    tests _ _ BadLength _ _ b (ap (λ (n : ℕ). ltb n 26 || ltb 48000000 n) n_same) (λ limits.
    needs 16 a b _ _ (λ sixteen.
    tests _ _ BadOpCode _ _ b (ap (λ (n : ℕ). not (eqb n 2013)) (number_same 12 a b sixteen)) (λ code.
    needs 20 a b _ _ (λ twenty. let flags_same = number_same 16 a b twenty in
    tests _ _ Checksum _ _ b (ap has_checksum flags_same) (λ checksum.
    tests _ _ BadFlag _ _ b (ap has_unknown_flag flags_same) (λ known.
    subst (λ (n : ℕ). Stays (shown_by (number_after 0 a) a) (shown_by n (a ++ b)) b) (sym n_same)
    (needs (number_after 0 a) a b _ _ (λ all.
    sections_stay _ _ _ _ _ _ _ _ b (number_same 4 a b (omega arith)) flags_same
    (ap (λ (x : List ℕ). sections_in (drop 20 x)) (take-append-le (number_after 0 a) a b all)) (drop-append-le (number_after 0 a) a b all))))))))))

-- ---- splitting goes on

stays_shown : (f : StreamFront) (now : StreamFront) (more : List ℕ) → Stays f now more → (f ≡ unfinished → ⊥) → now ≡ longer f more
stays_shown f now more (inl e) another = absurd (another e)
stays_shown f now more (inr e) another = e

continuation-behind : (message : Message) (s : Split) (c : Conversation) (more : List ℕ) → s.conversation ≡ c → continuation (split_behind message s) more ≡ split_behind message (continuation s more)
continuation-behind message s (reading bytes) more e = rw e refl
continuation-behind message s (closed fault) more e = rw e refl

goes : (steps : ℕ) (a b : List ℕ) → length a < steps → (f : StreamFront) → stream_front a ≡ f → split (a ++ b) ≡ continuation (split a) b
goes zero a b lt f e = absurd (omega arith)
goes (suc steps) a b lt unfinished e = rw (split_unfinished a e) refl
goes (suc steps) a b lt (closing fault) e =
    let now : stream_front (a ++ b) ≡ closing fault = stays_shown (closing fault) (stream_front (a ++ b)) b (subst (λ (f : StreamFront). Stays f (stream_front (a ++ b)) b) e (front_stays a b)) (λ same. cc) in
    split_closing (a ++ b) fault now ∙ sym (rw (split_closing a fault e) refl)
goes (suc steps) a b lt (whole message following) e =
    let now : stream_front (a ++ b) ≡ whole message (following ++ b) = stays_shown (whole message following) (stream_front (a ++ b)) b (subst (λ (f : StreamFront). Stays f (stream_front (a ++ b)) b) e (front_stays a b)) (λ same. cc) in
    let shorter = following_shorter a message following e in
    split_whole (a ++ b) message (following ++ b) now ∙ ap (split_behind message) (goes steps following b (omega arith) (stream_front following) refl)
    ∙ sym (ap (λ (s : Split). continuation s b) (split_whole a message following e) ∙ continuation-behind message (split following) (split following).conversation b refl)

pub split_continues : (a b : List ℕ) → split (a ++ b) ≡ continuation (split a) b
split_continues a b = goes (suc (length a)) a b (omega arith) (stream_front a) refl
