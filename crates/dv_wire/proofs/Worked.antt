-- The worked examples of sessions, computed.
use Rattle.std.proofs.Common.{◌≡◌, ℕ, Bool, true, false, List, [], ◌∷◌, ◌++◌, Result, Ok, Err, refl, ap, ◌∙◌, arith, lit<, inl, inr}
use Rattle.std.specs.Prelude.{pos, codes}
use Rattle.dv_value.specs.declared.fault.BsonFault.{BsonFault}
use Rattle.dv_value.specs.Tree.{int32, Field}
use Rattle.dv_value.specs.Spelling.{framed, element_spelling, payload}
use Rattle.dv_bson.specs.Reading.{document_at, count_at, body_at, Inside, fields_at, kind_at, kind_of_byte, name_at, cut_at_zero, value_at, text_at}
use Rattle.dv_value.specs.Results.{◌>>=◌}
use Rattle.dv_value.specs.Inner.ByteLaws.{is_text}
use Rattle.dv_command.specs.Asked.{asked_by}
use Rattle.dv_command.specs.declared.command.Command.{Command}
use Rattle.dv_refusal.specs.declared.refusal.Refusal.TheVariants.{WantOfMemory}
use Rattle.dv_core.specs.declared.outcome.Outcome.TheVariants.{NoReply}
use Rattle.dv_core.specs.State.{State}
use Rattle.dv_core.specs.Step.{Answer, answered, counted_step}
use Rattle.dv_message.specs.Sections.{row_within, each_in, section_frame, section_at, sections_in}
use Rattle.dv_message.specs.Message.{Message, Conversation, reading, stream_front, split_within, split, message_spelling}
use Rattle.dv_message.specs.Commands.{read_body, body_among, lists_among, command_from, command_of}
use Rattle.dv_wire.specs.Schedule.{reply_bytes, in_front, silence, plain_behind, plain_messages, plain_run}
use Rattle.dv_wire.proofs.Replies.{unmarked}
use Rattle.dv_message.specs.Inner.Examples.{asks, empty_document}
use Rattle.dv_wire.specs.Inner.Examples.{ping_document, ping_fields, ok, ping_message, pong, SessionExamples, WantOverBytes}

-- ---- a ping, from its bytes

read_name : name_at false [] (112 ∷ 105 ∷ 110 ∷ 103 ∷ 0 ∷ 1 ∷ 0 ∷ 0 ∷ 0 ∷ 2 ∷ 36 ∷ 100 ∷ 98 ∷ 0 ∷ 2 ∷ 0 ∷ 0 ∷ 0 ∷ 116 ∷ 0 ∷ []) ≡ Ok (codes "ping", 1 ∷ 0 ∷ 0 ∷ 0 ∷ 2 ∷ 36 ∷ 100 ∷ 98 ∷ 0 ∷ 2 ∷ 0 ∷ 0 ∷ 0 ∷ 116 ∷ 0 ∷ [])
unfolding name_at cut_at_zero
read_name = rw (is_text (codes "ping") refl) refl

read_second : name_at false ((codes "ping", int32 (pos 1)) ∷ []) (36 ∷ 100 ∷ 98 ∷ 0 ∷ 2 ∷ 0 ∷ 0 ∷ 0 ∷ 116 ∷ 0 ∷ []) ≡ Ok (codes "$db", 2 ∷ 0 ∷ 0 ∷ 0 ∷ 116 ∷ 0 ∷ [])
unfolding name_at cut_at_zero
read_second = rw (is_text (codes "$db") refl) refl

read_text : text_at (2 ∷ 0 ∷ 0 ∷ 0 ∷ 116 ∷ 0 ∷ []) ≡ Ok (codes "t", [])
unfolding text_at count_at
read_text = rw (is_text (codes "t") refl) refl

module _ (inside : Inside) where
  read_first : fields_at inside 21 false 4 [] (16 ∷ 112 ∷ 105 ∷ 110 ∷ 103 ∷ 0 ∷ 1 ∷ 0 ∷ 0 ∷ 0 ∷ 2 ∷ 36 ∷ 100 ∷ 98 ∷ 0 ∷ 2 ∷ 0 ∷ 0 ∷ 0 ∷ 116 ∷ 0 ∷ []) 0 ≡ fields_at inside 20 false 14 ((codes "ping", int32 (pos 1)) ∷ []) (2 ∷ 36 ∷ 100 ∷ 98 ∷ 0 ∷ 2 ∷ 0 ∷ 0 ∷ 0 ∷ 116 ∷ 0 ∷ []) 0
  unfolding fields_at kind_at kind_of_byte value_at
  read_first = rw read_name refl

  read_last : fields_at inside 20 false 14 ((codes "ping", int32 (pos 1)) ∷ []) (2 ∷ 36 ∷ 100 ∷ 98 ∷ 0 ∷ 2 ∷ 0 ∷ 0 ∷ 0 ∷ 116 ∷ 0 ∷ []) 0 ≡ Ok ping_fields
  unfolding fields_at kind_at kind_of_byte value_at
  read_last = rw (read_second, read_text) refl

read_ping : document_at ping_document ≡ Ok (ping_fields, 26)
unfolding document_at count_at body_at
read_ping = ap (λ (fields : Result (List Field) BsonFault). fields >>= λ fs. Ok (fs, 26)) (read_first (body_at 99) ∙ read_last (body_at 99))

-- the command of a body alone, as it is read
abbrev command_by : Result (List Field × ℕ) BsonFault → Command
command_by read =
    command_from ((((read >>= (λ found. Ok found.0)) >>= (λ fields. Ok (read_body fields))) >>= (λ first. Ok (first ∷ []))) >>= (λ brought. Ok (body_among [] brought, lists_among brought)))

command_is : (more_to_come : Bool) (document : List ℕ) → command_of (asks more_to_come document) ≡ command_by (document_at document)
command_is more_to_come document = refl

answer_ping : (state : State) (session : ℕ) (more_to_come : Bool) → counted_step state session (command_of (asks more_to_come ping_document)) ≡ record { reply = ok; state = state }
answer_ping state session more_to_come = ap (counted_step state session) (command_is more_to_come ping_document ∙ ap command_by read_ping) ∙ refl

split_pings : split (ping_message 0 ++ ping_message 2 ++ ping_message 0 ++ 47 ∷ []) ≡ record { messages = asks false ping_document ∷ asks true ping_document ∷ asks false ping_document ∷ []; conversation = reading (47 ∷ []) }
unfolding split split_within stream_front sections_in each_in row_within section_at section_frame
split_pings = refl

plain_next : (session : ℕ) (state : State) (message : Message) (messages : List Message) (conversation : Conversation) (reply : List Field) → counted_step state session (command_of message) ≡ record { reply = reply; state = state }
    → plain_messages session state (message ∷ messages) conversation ≡ in_front (reply_bytes message reply ∷ []) (plain_messages session state messages conversation)
unfolding plain_messages
plain_next session state message messages conversation reply e = ap (λ (a : Answer). plain_behind message a (λ behind. plain_messages session behind messages conversation)) e

pong_bytes : reply_bytes (asks false ping_document) ok ≡ pong
unfolding message_spelling framed element_spelling payload
pong_bytes = refl

plain_none : (session : ℕ) (state : State) (conversation : Conversation) → plain_messages session state [] conversation ≡ silence state conversation
unfolding plain_messages
plain_none session state conversation = refl

pub ping_run : (state : State) (session : ℕ) → plain_run session state (split (ping_message 0 ++ ping_message 2 ++ ping_message 0 ++ 47 ∷ [])) ≡ record { answers = pong ∷ [] ∷ pong ∷ []; state = state; conversation = reading (47 ∷ []) }
ping_run state session =
    ap (plain_run session state) split_pings
    ∙ plain_next session state (asks false ping_document) (asks true ping_document ∷ asks false ping_document ∷ []) (reading (47 ∷ [])) ok (answer_ping state session false)
    ∙ ap (in_front (reply_bytes (asks false ping_document) ok ∷ []))
    (plain_next session state (asks true ping_document) (asks false ping_document ∷ []) (reading (47 ∷ [])) ok (answer_ping state session true)
    ∙ ap (in_front ([] ∷ []))
    (plain_next session state (asks false ping_document) [] (reading (47 ∷ [])) ok (answer_ping state session false)
    ∙ ap (in_front (reply_bytes (asks false ping_document) ok ∷ [])) (plain_none session state (reading (47 ∷ [])))))
    ∙ ap (λ (b : List ℕ). in_front (b ∷ []) (in_front ([] ∷ []) (in_front (b ∷ []) (silence state (reading (47 ∷ [])))))) pong_bytes

pub sessions : SessionExamples
sessions = record {
  first = λ state. (lit< tt, lit< tt, refl, refl);
  another = λ state next sessions many lt. (omega arith, omega arith, refl, refl);
  too_many = λ state next sessions session new many opens. omega (arith, opens.0);
  not_too_many = λ state new refused. elim refused.0 [ inl many ↦ omega (arith, many) | inr none ↦ omega (arith, none) ];
  after_an_end = λ state others many. (omega arith, lit< tt, refl, refl);
  last_number = λ state. (lit< tt, lit< tt, refl, refl);
  no_number = λ state session new opens. omega (arith, opens.1);
  unfinished = refl;
  none_unfinished = refl;
  pings = ping_run;
}

pub wants : WantOverBytes
wants = record {
  plain = λ reply. refl;
  untold = λ reply. refl;
  told = λ reply. refl;
  no_reply = λ more_to_come. refl;
  refused = λ state session. (NoReply, state, inr (answered state (Err WantOfMemory), inl (refl, unmarked state (asked_by (command_of (asks true empty_document))) state.marks refl), refl), refl);
}
