-- Streams, message by message.
use Rattle.std.proofs.Common.{◌≡◌, ℕ, true, ◌-◌, ◌⊎◌, Result, Err, List, [], ◌∷◌, ◌++◌, length, take, drop, refl, sym, ap, subst, ◌∙◌, append_assoc, arith, inl, inr}
use Rattle.std.specs.Bool.{◌==◌}
use Rattle.std.proofs.lemmas.Bool.{eqb-true}
use Rattle.std.proofs.lemmas.List.{append-nil, length-append, take_at, drop_at}
use Rattle.dv_message.specs.declared.fault.CloseFault.{CloseFault}
use Rattle.dv_message.specs.declared.fault.CloseFault.TheVariants.{NoMemory}
use Rattle.dv_message.specs.declared.front.Front.TheVariants.{Closing}
use Rattle.dv_core.specs.State.{State}
use Rattle.dv_message.specs.Message.{Message, unfinished, closing, whole, stream_front, Conversation, reading, closed, Split, split_behind, split}
use Rattle.std.specs.List.{concat}
use Rattle.dv_wire.specs.Schedule.{Run, in_front, CarriesOutMessages, TakesSplit, takes_all, takes_some}
use Rattle.dv_wire.specs.declared.session.Counts.{Counts}
use Rattle.dv_wire.specs.Inner.View.{Answered, Counted, GoesOn, Carries}
use Rattle.dv_wire.proofs.Fronts.{FollowMessages, SplitByFronts, split_unfinished, split_closing, split_whole}
use Rattle.dv_wire.proofs.Counting.{answered_more, Counted-append, Counted-none}
use Rattle.dv_wire.proofs.Runs.{carries_then, carries_to, carries_cases}

-- messages, and how what follows them splits
abbrev pub split_before : List Message → Split → Split
split_before messages others = record { messages = messages ++ others.messages; conversation = others.conversation }

-- ---- as far as a loop has come

-- the messages carried out so far and what they answered; the stream consists of these messages and the rest
pub record Progress (session : ℕ) (old new : State) (stream following out_before out_after : List ℕ) (before after : Counts) : Type 0 where
  pub messages : List Message
  pub answers : List (List ℕ)
  pub taken : List ℕ
  pub answered : out_after ≡ out_before ++ concat answers
  pub counted : Counted before answers after
  pub carried : GoesOn session old messages answers new
  pub splits : split stream ≡ split_before messages (split following)
  pub parts : stream ≡ taken ++ following

pub begins : (session : ℕ) (old : State) (stream out : List ℕ) (counts : Counts) → Progress session old old stream stream out out counts counts
begins session old stream out counts =
    record { messages = []; answers = []; taken = []; answered = sym (append-nil out); counted = Counted-none counts; carried = refl; splits = refl; parts = refl }

-- a stream without bytes shows no message
none_unfinished : (bytes : List ℕ) → (length bytes == 0) ≡ true → stream_front bytes ≡ unfinished
unfolding stream_front
none_unfinished [] e = refl
none_unfinished (b ∷ bytes) e = absurd (omega (arith, eqb-true (length (b ∷ bytes)) 0 e))

module _ (by_front : SplitByFronts) (session : ℕ) (old mid : State) (stream here out_before out_now : List ℕ) (before now : Counts) (progress : Progress session old mid stream here out_before out_now before now) where
  pub goes_on : FollowMessages → (new : State) (message : Message) (following out_after : List ℕ) (after : Counts) → stream_front here ≡ whole message following
      → Answered out_now out_after now after (λ answers. GoesOn session mid (message ∷ []) answers new) → Progress session old new stream following out_before out_after before after
  goes_on follow new message following out_after after shown one =
      let (taken, parts, shorter) = follow here message following shown in
      let step : split stream ≡ split_before (progress.messages ++ message ∷ []) (split following) =
      progress.splits ∙ ap (split_before progress.messages) (split_whole by_front here message following shown)
      ∙ ap (λ (ms : List Message). record { messages = ms; conversation = (split following).conversation }) (sym (append_assoc progress.messages (message ∷ []) (split following).messages)) in
      record {
        messages = progress.messages ++ message ∷ [];
        answers = progress.answers ++ one.0;
        taken = progress.taken ++ taken;
        answered = answered_more out_before out_now out_after progress.answers one.0 progress.answered one.1;
        counted = Counted-append progress.answers one.0 before now after progress.counted one.2;
        carried = carries_then session old mid progress.messages (message ∷ []) progress.answers (reading []) (record { answers = one.0; state = new; conversation = reading [] }) progress.carried one.3;
        splits = step;
        parts = progress.parts ∙ ap (λ (x : List ℕ). progress.taken ++ x) parts ∙ sym (append_assoc progress.taken taken following);
      }

  left_is : drop (length stream - length here) stream ≡ here
  left_is =
      let len : length progress.taken ≡ length stream - length here = omega (arith, ap length progress.parts, length-append progress.taken here) in
      ap (drop (length stream - length here)) progress.parts ∙ drop_at progress.taken here (length stream - length here) len

  -- all messages are carried out
  whole_run : (conversation : Conversation) → split here ≡ record { messages = []; conversation = conversation }
      → TakesSplit session old (split stream) (record { answers = progress.answers; state = mid; conversation = conversation })
  whole_run conversation e =
      let all : split stream ≡ record { messages = progress.messages; conversation = conversation } =
      progress.splits ∙ ap (split_before progress.messages) e ∙ ap (λ (ms : List Message). record { messages = ms; conversation = conversation }) (append-nil progress.messages) in
      subst (λ (s : Split). TakesSplit session old s (record { answers = progress.answers; state = mid; conversation = conversation })) (sym all)
      (takes_all (carries_to session old mid progress.messages progress.answers conversation progress.carried))

  pub at_unfinished : stream_front here ≡ unfinished
      → Answered out_before out_now before now (λ answers. TakesSplit session old (split stream) (record { answers = answers; state = mid; conversation = reading (drop (length stream - length here) stream) }))
  at_unfinished shown = (progress.answers, progress.answered, progress.counted, rw left_is (whole_run (reading here) (split_unfinished by_front here shown)))

  -- nothing is left
  pub at_end : (length here == 0) ≡ true
      → Answered out_before out_now before now (λ answers. TakesSplit session old (split stream) (record { answers = answers; state = mid; conversation = reading (drop (length stream) stream) }))
  at_end empty =
      let none : length stream - length here ≡ length stream = omega (arith, eqb-true (length here) 0 empty) in
      rw none at (at_unfinished (none_unfinished here empty))

  pub at_closing : (fault : CloseFault) → stream_front here ≡ closing fault
      → Answered out_before out_now before now (λ answers. TakesSplit session old (split stream) (record { answers = answers; state = mid; conversation = closed fault }))
  at_closing fault shown = (progress.answers, progress.answered, progress.counted, whole_run (closed fault) (split_closing by_front here fault shown))

  -- memory runs out while the next message is read
  pub at_want : Answered out_before out_now before now (λ answers. TakesSplit session old (split stream) (record { answers = answers; state = mid; conversation = closed NoMemory }))
  at_want =
      let run : Run = record { answers = progress.answers; state = mid; conversation = closed NoMemory } in
      let first : take (length progress.messages) (split stream).messages ≡ progress.messages =
      ap (λ (s : Split). take (length progress.messages) s.messages) progress.splits ∙ take_at progress.messages (split here).messages (length progress.messages) refl in (
        progress.answers,
        progress.answered,
        progress.counted,
        takes_some (length progress.messages)
            (subst (λ (ms : List Message). CarriesOutMessages session old ms (closed NoMemory) run) (sym first) (carries_to session old mid progress.messages progress.answers (closed NoMemory) progress.carried)),
      )

  pub at_fault : (fault : CloseFault) → (closing fault ≡ stream_front here) ⊎ (Closing fault ≡ Closing NoMemory)
      → Answered out_before out_now before now (λ answers. TakesSplit session old (split stream) (record { answers = answers; state = mid; conversation = closed fault }))
  at_fault fault (inl shown) = at_closing fault (sym shown)
  at_fault fault (inr want) =
      let same : fault ≡ NoMemory = cc in
      subst (λ (f : CloseFault). Answered out_before out_now before now (λ answers. TakesSplit session old (split stream) (record { answers = answers; state = mid; conversation = closed f }))) (sym same) at_want

  -- the next message closes the session
  ends : (new : State) (message : Message) (others : Split) (answers : List (List ℕ)) → split stream ≡ split_before progress.messages (split_behind message others)
      → CarriesOutMessages session mid (message ∷ []) (reading []) (record { answers = answers; state = new; conversation = closed NoMemory })
      → TakesSplit session old (split stream) (record { answers = progress.answers ++ answers; state = new; conversation = closed NoMemory })
  ends new message others answers splits carried =
      let run : Run = record { answers = answers; state = new; conversation = closed NoMemory } in
      subst (λ (s : Split). TakesSplit session old s (in_front progress.answers run)) (sym splits)
      (takes_all (carries_then session old mid progress.messages (message ∷ others.messages) progress.answers others.conversation run progress.carried
      (elim (carries_cases session mid (message ∷ []) [] (reading []) run carried) [
        | inl stops ↦ stops.before others.messages others.conversation
        | inr d ↦ let e = ap (λ (r : Run). r.conversation) d.both ∙ ap (λ (r : Run). r.conversation) d.behind in absurd cc
      ])))

  pub at_failure : {A E : Type 0} (new : State) (message : Message) (following out_after : List ℕ) (after : Counts) (failed : Result A E) (error : E) → stream_front here ≡ whole message following → failed ≡ Err error
      → Answered out_now out_after now after (λ answers. Carries session mid message answers new failed)
      → Answered out_before out_after before after (λ answers. TakesSplit session old (split stream) (record { answers = answers; state = new; conversation = closed NoMemory }))
  at_failure {A = A} new message following out_after after failed error shown is_error one =
      let splits : split stream ≡ split_before progress.messages (split_behind message (split following)) = progress.splits ∙ ap (split_before progress.messages) (split_whole by_front here message following shown) in (
        progress.answers ++ one.0,
        answered_more out_before out_now out_after progress.answers one.0 progress.answered one.1,
        Counted-append progress.answers one.0 before now after progress.counted one.2,
        ends new message (split following) one.0 splits (subst (λ (r : Result A _). Carries session mid message one.0 new r) is_error one.3),
      )
