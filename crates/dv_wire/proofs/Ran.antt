-- A whole session: it was opened, and has ended.
use Rattle.std.proofs.Common.{◌≡◌, ℕ, List, [], length, Option, Some, Ok, Err, refl, ap, ◌∙◌}
use Rattle.dv_message.specs.declared.fault.CloseFault.{CloseFault}
use Rattle.dv_wire.specs.declared.fault.RunFault.{RunFault}
use Rattle.dv_wire.specs.declared.fault.RunFault.TheVariants.{Read, Write, TooManyReads, Hub}
use Rattle.dv_wire.specs.declared.hub.SessionId.{SessionId}
use Rattle.dv_wire.specs.declared.session.Counts.{Counts}
use Rattle.dv_message.specs.Message.{reading}
use Rattle.dv_wire.specs.Schedule.{Run, World, Opens, conversation_of, end, unfinished_in}
use Rattle.dv_wire.specs.Service.{ComesTo, Serves, closing_of, done_of, reply_count}
use Rattle.dv_wire.specs.Inner.View.{Talks, TalksTo}
use Rattle.dv_wire.proofs.Worlds.{conversation_of-with}

done_is : (messages replies unfinished : ℕ) (closing : Option CloseFault) (run : Run) → messages ≡ length run.answers → replies ≡ reply_count run.answers → closing ≡ closing_of run.conversation
    → unfinished ≡ unfinished_in (Some run.conversation) → record { messages = messages; replies = replies; closing = closing; unfinished = unfinished } ≡ done_of run
done_is messages replies unfinished closing run are sent shut left = rw (are, sent, shut, left) refl

module _ (old begun mid new : World) (id : SessionId) (from to before after : Option (List ℕ)) (opened : Opens old (Ok id) begun) (ended : new ≡ end id.number mid) where
  abbrev served : (run : Run) (unwritten : List ℕ) → Talks id.number begun from to before after run unwritten mid → Serves old from to before after run unwritten new
  served run unwritten talks = record {
    read = talks.read;
    session = record { session = id; begun = begun; opened = opened; heard = talks.heard; ended = ended ∙ ap (end id.number) talks.behind };
    consumed = talks.consumed;
    written = talks.written;
    answers = talks.answers;
    appended = talks.appended;
  }

  pub ran_fault : (fault : RunFault) → TalksTo (Err fault) id.number begun mid from to before after → ComesTo (Err fault) old new from to before after
  ran_fault Read (run, talks) = (run, served run [] talks)
  ran_fault Write (run, unwritten, talks) = (run, unwritten, served run unwritten talks)
  ran_fault TooManyReads (run, talks, many) = (run, served run [] talks, many)
  ran_fault (Hub fault) never = absurd never

  pub ran_done : (told : Counts × Option CloseFault) (unfinished : ℕ) → conversation_of id.number begun.sessions ≡ Some (reading []) → unfinished ≡ unfinished_in (conversation_of id.number mid.sessions)
      → TalksTo (Ok told) id.number begun mid from to before after
      → ComesTo (Ok (record { messages = told.0.messages; replies = told.0.replies; closing = told.1; unfinished = unfinished })) old new from to before after
  ran_done told unfinished there left (run, talks, messages, replies, closing, at_end) =
      let stands : conversation_of id.number mid.sessions ≡ Some run.conversation =
      ap (λ (w : World). conversation_of id.number w.sessions) talks.behind ∙ conversation_of-with id.number begun.sessions (reading []) run.conversation there in
      (run, served run [] talks, done_is told.0.messages told.0.replies unfinished told.1 run messages replies closing (left ∙ ap unfinished_in stands), at_end)
