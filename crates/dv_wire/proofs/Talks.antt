-- A session that reads and is answered, piece by piece.
use Rattle.std.proofs.Common.{◌≡◌, ℕ, true, false, ◌+◌, ◌*◌, ◌^◌, ◌<◌, ◌≤◌, List, [], ◌∷◌, ◌++◌, length, take, Option, Some, None, Result, Ok, Err, refl, sym, ap, subst, ◌∙◌, append_assoc, arith, inl, inr}
use Rattle.std.specs.List.{concat}
use Rattle.std.specs.Prelude.{OnErr, OnOk}
use Rattle.std.specs.Option.{is_some}
use Rattle.std.specs.Result.{is_err}
use Rattle.std.specs.Io.KnownBytes.{Appends, Consumes, IsAtEnd, Keeps}
use Rattle.std.proofs.KnownBytes.{Appends-nil, Appends-trans, Consumes-kept, Consumes-nil, Consumes-trans}
use Rattle.std.proofs.lemmas.List.{append-nil, length-append, length-take, length-take-le}
use Rattle.std.proofs.lemmas.List.Folds.{concat-append}
use Rattle.dv_message.specs.declared.fault.CloseFault.{CloseFault}
use Rattle.dv_wire.specs.declared.hub.Fed.{Fed}
use Rattle.dv_wire.specs.declared.session.Counts.{Counts}
use Rattle.dv_core.specs.State.{State}
use Rattle.dv_message.specs.Message.{Message, Conversation, reading, closed, Split, split, split_within, stream_front}
use Rattle.dv_wire.specs.Schedule.{Run, World, in_front, silence, bytes_of, bytes_to, CarriesOutMessages, TakesSplit, takes_all, takes_some, Hears, Comes, conversation_of, fed_of, world_behind}
use Rattle.dv_wire.specs.Service.{closing_of, reply_count}
use Rattle.dv_wire.specs.declared.fault.RunFault.TheVariants.{Read, Write, TooManyReads}
use Rattle.dv_wire.specs.Inner.View.{Counted, Talks, TalksTo, closing_fed}
use Rattle.dv_wire.proofs.Counting.{reply_count-append, reply_count-le}
use Rattle.dv_wire.proofs.Runs.{follows_cases}
use Rattle.dv_wire.proofs.Fronts.{AreFew, GoOn}
use Rattle.dv_wire.proofs.Worlds.{conversation_of-with, with-same}
use Rattle.dv_wire.proofs.Cuts.{hears_joined, world_twice}

-- ---- no more messages than bytes

carried_few : (session : ℕ) (old : State) (messages : List Message) (conversation : Conversation) (run : Run) → CarriesOutMessages session old messages conversation run → length run.answers ≤ length messages
carried_few session old [] conversation run h = omega (arith, ap (λ (r : Run). length r.answers) h)
carried_few session old (message ∷ messages) conversation run (outcome, mid, steps, follows) =
    elim (follows_cases (bytes_to message outcome) mid (CarriesOutMessages session mid messages conversation) run follows) [
      | inl shut ↦ omega (arith, ap (λ (r : Run). length r.answers) shut)
      | inr a ↦ omega (arith, ap (λ (r : Run). length r.answers) a.both, carried_few session mid messages conversation a.others a.behind)
    ]

takes_few : (session : ℕ) (old : State) (s : Split) (run : Run) → TakesSplit session old s run → length run.answers ≤ length s.messages
takes_few session old s run (takes_all carried) = carried_few session old s.messages s.conversation run carried
takes_few session old s run (takes_some count carried) =
    omega (arith, carried_few session old (take count s.messages) (closed _) run carried, length-take count s.messages)

hears_few : AreFew → (session : ℕ) (old : State) (bytes : List ℕ) (run : Run) → Hears session old (reading []) bytes run → length run.answers ≤ length bytes
hears_few few session old bytes run hears = omega (arith, takes_few session old (split bytes) run hears, few bytes)

-- ---- what was read so far

-- what was read was taken by the session, and what it led to is counted
pub record Spoken (session : ℕ) (old : World) (from to : Option (List ℕ)) (new : World) (counts : Counts) (reads : ℕ) (run : Run) : Type 0 where
  pub read : List ℕ
  pub heard : Hears session old.state (reading []) read run
  pub behind : new ≡ world_behind session run old
  pub consumed : Consumes from to read
  pub messages : counts.messages ≡ length run.answers
  pub replies : counts.replies ≡ reply_count run.answers
  pub least : reads ≤ length read
  pub most : length read ≤ reads * 65536

-- and it is answered, and the session is open
pub record Talking (session : ℕ) (old : World) (from to before after : Option (List ℕ)) (new : World) (counts : Counts) (reads : ℕ) : Type 0 where
  pub run : Run
  pub spoken : Spoken session old from to new counts reads run
  pub goes_on : closing_of run.conversation ≡ None
  pub written : Appends before after (bytes_of run)

no_message : split [] ≡ record { messages = []; conversation = reading [] }
unfolding split split_within stream_front
no_message = refl

nothing_heard : (session : ℕ) (state : State) → Hears session state (reading []) [] (silence state (reading []))
nothing_heard session state = subst (λ (s : Split). TakesSplit session state s (silence state (reading []))) (sym no_message) (takes_all refl)

pub begins : (session : ℕ) (old : World) (from before : Option (List ℕ)) (counts : Counts) → conversation_of session old.sessions ≡ Some (reading []) → counts.messages ≡ 0 → counts.replies ≡ 0
    → Talking session old from from before before old counts 0
begins session old from before counts there messages replies = record {
  run = silence old.state (reading []);
  spoken = record {
    read = [];
    heard = nothing_heard session old.state;
    behind = ap (λ (ss : List (ℕ × Conversation)). record { state = old.state; next = old.next; sessions = ss }) (sym (with-same session old.sessions (reading []) there));
    consumed = Consumes-nil from;
    messages = messages;
    replies = replies;
    least = omega arith;
    most = omega arith;
  };
  goes_on = refl;
  written = Appends-nil before;
}

-- what holds of an error, or of a value, if the result is known to be one
pub at_err : {A E : Type 0} (r : Result A E) (P : Type 0) → is_err r ≡ true → OnErr r P → P
at_err (Ok x) P e holds = absurd cc
at_err (Err y) P e holds = holds

pub at_ok : {A E : Type 0} (r : Result A E) (P : Type 0) → is_err r ≡ false → OnOk r P → P
at_ok (Ok x) P e holds = holds
at_ok (Err y) P e holds = absurd cc

pub not_some : {A : Type 0} (r : Option A) → is_some r ≡ false → r ≡ None
not_some None e = refl
not_some (Some x) e = absurd cc

pub is_not_none : {A : Type 0} (r : Option A) → is_some r ≡ true → r ≡ None → ⊥
is_not_none None e none = absurd cc
is_not_none (Some x) e none = absurd cc

closing_same : (c : Conversation) → closing_fed (fed_of c) ≡ closing_of c
closing_same (reading kept) = refl
closing_same (closed fault) = refl

module _ (go_on : GoOn) (few_messages : AreFew) (session : ℕ) (old : World) (there : conversation_of session old.sessions ≡ Some (reading [])) where
  -- what a piece that is read leads to
  pub record Said (from to before after : Option (List ℕ)) (new : World) (counts : Counts) (reads : ℕ) (answers : List (List ℕ)) (told : Fed) : Type 0 where
    pub first : Run
    pub run : Run
    pub spoken : Spoken session old from to new counts reads run
    pub written : Appends before after (bytes_of first)
    pub bytes : bytes_of run ≡ bytes_of first ++ concat answers
    pub told_so : closing_fed told ≡ closing_of run.conversation

  module _ (from mid to before after : Option (List ℕ)) (here new : World) (counts now : Counts) (reads : ℕ) (talking : Talking session old from mid before after here counts reads) where
    piece_more : (piece : List ℕ) (answers : List (List ℕ)) (told : Fed) → Consumes mid to piece → 0 < length piece → length piece ≤ 65536 → reads < 2 ^ 32
        → Comes here session piece answers told new → Counted counts answers now → Said from to before after new now (reads + 1) answers told
    piece_more piece answers told taken some few room comes counted =
        let run = talking.run in
        let spoken = talking.spoken in
        let stands : conversation_of session (world_behind session run old).sessions ≡ Some run.conversation = conversation_of-with session old.sessions (reading []) run.conversation there in
        let (two, hears, are, tells, world) = rw stands at (subst (λ (w : World). Comes w session piece answers told new) spoken.behind comes) in
        let joint = in_front run.answers two in
        let heard = hears_joined go_on session old.state (reading []) spoken.read piece run two spoken.heard hears in
        let size = length-append spoken.read piece in
        let all = hears_few few_messages session old.state (spoken.read ++ piece) joint heard in
        let sum = length-append run.answers two.answers in
        let same_length = ap (λ (xs : List (List ℕ)). length xs) are in
        let same_count = ap reply_count are in
        let more = reply_count-append run.answers two.answers in
        let fewer = reply_count-le joint.answers in
        let messages = counted.0 (omega (arith, all, size, sum, same_length, few, room, spoken.most, spoken.messages)) in
        let replies = counted.1 (omega (arith, all, size, fewer, more, same_count, few, room, spoken.most, spoken.replies)) in
        record {
          first = run;
          run = joint;
          spoken = record {
            read = spoken.read ++ piece;
            heard = heard;
            behind = world ∙ world_twice old session run two;
            consumed = Consumes-trans from mid to spoken.read piece spoken.consumed taken;
            messages = omega (arith, messages, sum, same_length, spoken.messages);
            replies = omega (arith, replies, more, same_count, spoken.replies);
            least = omega (arith, size, some, spoken.least);
            most = omega (arith, size, few, spoken.most);
          };
          written = talking.written;
          bytes = concat-append run.answers two.answers ∙ ap (λ (xs : List (List ℕ)). bytes_of run ++ concat xs) (sym are);
          told_so = ap closing_fed tells ∙ closing_same two.conversation;
        }

    -- `count` bytes of the buffer are read, and taken by the session
    pub read_more : (buffer : List ℕ) (count : ℕ) (answers : List (List ℕ)) (told : Fed) → count ≤ length buffer → (count ≡ 0 → ⊥) → length buffer ≡ 65536 → Consumes mid to (take count buffer) → reads < 2 ^ 32
        → Comes here session (take count buffer) answers told new → Counted counts answers now → Said from to before after new now (reads + 1) answers told
    read_more buffer count answers told few some room taken fits comes counted =
        let size = length-take-le count buffer few in
        piece_more (take count buffer) answers told taken (omega (arith, size, some)) (omega (arith, size, few, room)) fits comes counted

  module _ (from mid to before after : Option (List ℕ)) (here : World) (counts : Counts) (reads : ℕ) (talking : Talking session old from mid before after here counts reads) where
    -- all that was read is answered
    abbrev talks : Consumes from to talking.spoken.read → Talks session old from to before after talking.run [] here
    talks consumed = record {
      read = talking.spoken.read;
      heard = talking.spoken.heard;
      behind = talking.spoken.behind;
      consumed = consumed;
      written = bytes_of talking.run;
      answers = sym (append-nil (bytes_of talking.run));
      appended = talking.written;
    }

    -- the reader is at its end
    pub at_end : Consumes mid to [] → IsAtEnd to → TalksTo (Ok (counts, None)) session old here from to before after
    at_end nothing end =
        let consumed = subst (Consumes from to) (append-nil talking.spoken.read) (Consumes-trans from mid to talking.spoken.read [] talking.spoken.consumed nothing) in
        (talking.run, talks consumed, talking.spoken.messages, talking.spoken.replies, sym talking.goes_on, λ none. end)

    -- the reader fails
    pub at_failure : Keeps mid to → TalksTo (Err Read) session old here from to before after
    at_failure keeps = (talking.run, talks (Consumes-kept from mid to talking.spoken.read talking.spoken.consumed keeps))

  -- too many reads were made
  pub at_limit : (from to before after : Option (List ℕ)) (here : World) (counts : Counts) (reads : ℕ) → Talking session old from to before after here counts reads → 2 ^ 32 ≤ reads
      → TalksTo (Err TooManyReads) session old here from to before after
  at_limit from to before after here counts reads talking all =
      (talking.run, talks from to to before after here counts reads talking talking.spoken.consumed, omega (arith, talking.spoken.least, all))

  module _ (from to before mid after : Option (List ℕ)) (new : World) (counts : Counts) (reads : ℕ) (answers : List (List ℕ)) (told : Fed) (said : Said from to before mid new counts reads answers told)
      (replies : List ℕ) (are : replies ≡ concat answers) where
    module _ (written : Appends mid after replies) where
      all_written : Appends before after (bytes_of said.run)
      all_written = subst (Appends before after) (ap (λ (b : List ℕ). bytes_of said.first ++ b) are ∙ sym said.bytes) (Appends-trans before mid after (bytes_of said.first) replies said.written written)

      -- the session goes on
      pub talks_on : closing_fed told ≡ None → Talking session old from to before after new counts reads
      talks_on nothing = record { run = said.run; spoken = said.spoken; goes_on = sym said.told_so ∙ nothing; written = all_written }

      -- or is closed
      pub at_closing : (shut : Option CloseFault) → shut ≡ closing_fed told → (shut ≡ None → ⊥) → TalksTo (Ok (counts, shut)) session old new from to before after
      at_closing shut is some = (
        said.run,
        record {
          read = said.spoken.read;
          heard = said.spoken.heard;
          behind = said.spoken.behind;
          consumed = said.spoken.consumed;
          written = bytes_of said.run;
          answers = sym (append-nil (bytes_of said.run));
          appended = all_written;
        },
        said.spoken.messages,
        said.spoken.replies,
        is ∙ said.told_so,
        λ none. absurd (some none),
      )

    -- the writer took a part of the answers
    pub at_part : (part rest : List ℕ) → replies ≡ part ++ rest → Appends mid after part → TalksTo (Err Write) session old new from to before after
    at_part part rest parts taken = (
      said.run,
      rest,
      record {
        read = said.spoken.read;
        heard = said.spoken.heard;
        behind = said.spoken.behind;
        consumed = said.spoken.consumed;
        written = bytes_of said.first ++ part;
        answers = said.bytes ∙ ap (λ (b : List ℕ). bytes_of said.first ++ b) (sym are ∙ parts) ∙ sym (append_assoc (bytes_of said.first) part rest);
        appended = Appends-trans before mid after (bytes_of said.first) part said.written taken;
      },
    )
