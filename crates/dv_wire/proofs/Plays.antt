-- Schedules: one event more, and a piece of a session's bytes as two.
use Rattle.std.proofs.Common.{◌≡◌, ℕ, zero, suc, ◌+◌, ◌<◌, Some, Ok, List, [], ◌∷◌, ◌++◌, length, get_or, take, refl, sym, ap, subst, ◌∙◌, arith}
use Rattle.dv_wire.specs.declared.events.Event.{Event}
use Rattle.dv_wire.specs.declared.events.Event.TheVariants as events
use Rattle.dv_wire.specs.declared.events.Said.{Said}
use Rattle.dv_wire.specs.declared.events.Said.TheVariants as said
use Rattle.dv_wire.specs.declared.hub.Fed.{Fed}
use Rattle.dv_wire.specs.declared.hub.SessionId.{SessionId}
use Rattle.dv_message.specs.Message.{reading}
use Rattle.dv_wire.specs.Schedule.{Run, World, FeedsAll, bytes_of, conversation_of, fed_of, unfinished_in, world_behind}
use Rattle.dv_wire.specs.Service.{IsSession}
use Rattle.dv_wire.specs.Sound.{IsNumbered}
use Rattle.dv_wire.proofs.Worlds.{conversation_of-with, opened_there}
use Rattle.dv_wire.specs.Playing.{CutPiece, Happens, Plays, PlaysInTurn, ComesInTwo, events_of_session, said_of_session}
use Rattle.dv_wire.proofs.Fronts.{GoOn}
use Rattle.dv_wire.proofs.Cuts.{feeds_joined, feeds_all}

pub taken : (events : List Event) (i : ℕ) (item : Event) → i < length events → item ≡ get_or events i item → take (i + 1) events ≡ take i events ++ item ∷ []
taken [] i item lt is = absurd (omega arith)
taken (event ∷ events) zero item lt is = ap (λ (e : Event). e ∷ []) (sym is)
taken (event ∷ events) (suc i) item lt is =
    let one : suc i + 1 ≡ suc (i + 1) = omega arith in
    rw one (ap (λ (es : List Event). event ∷ es) (taken events i item (omega arith) is))

-- ---- one schedule, and then another

pub plays_joined : (old mid new : World) (first second : List Event) (one two : List Said) → Plays old first one mid → Plays mid second two new → Plays old (first ++ second) (one ++ two) new
plays_joined old mid new [] second one two (nothing, same) behind = rw nothing (subst (λ (w : World). Plays w second two new) same behind)
plays_joined old mid new (event ∷ first) second one two (said_first, others, between, is, here, rest) behind =
    rw is (said_first, others ++ two, between, refl, here, plays_joined between mid new first second others two rest behind)

pub plays_parted : (old new : World) (first second : List Event) (all : List Said) → Plays old (first ++ second) all new
    → PlaysInTurn old first second all new
plays_parted old new [] second all plays = ([], all, old, refl, (refl, refl), plays)
plays_parted old new (event ∷ first) second all (said_first, others, between, is, here, rest) =
    let (one, two, mid, both, before, behind) = plays_parted between new first second others rest in
    (said_first ∷ one, two, mid, is ∙ ap (λ (ss : List Said). said_first ∷ ss) both, (said_first, one, between, refl, here, before), behind)

pub plays_more : (old mid new : World) (events : List Event) (all : List Said) (event : Event) (last : Said) → Plays old events all mid → Happens mid event last new
    → Plays old (events ++ event ∷ []) (all ++ last ∷ []) new
plays_more old mid new events all event last plays happens = plays_joined old mid new events (event ∷ []) all (last ∷ []) plays (last, [], new, refl, happens, (refl, refl))

-- ---- a piece as two

module _ (go_on : GoOn) (session : SessionId) (piece more : List ℕ) (after : List Event) (told : Fed) (behind : List Said) where
  abbrev cut_at : List Event → List Said → List ℕ → CutPiece
  cut_at before answers bytes = record {
    before = before;
    session = session;
    piece = piece;
    more = more;
    after = after;
    answers = answers;
    told = told;
    bytes = bytes;
    behind = behind;
  }

  pub in_two : (old new : World) (before : List Event) (answers : List Said) (bytes : List ℕ) → length before ≡ length answers
      → Plays old (before ++ events.Piece session (piece ++ more) ∷ after) (answers ++ said.Fed told bytes ∷ behind) new
      → ComesInTwo old (cut_at before answers bytes) new
  in_two old new [] [] bytes same (first, others, mid, is, here, rest) =
      let whole : said.Fed told bytes ≡ first = cc in
      let all : behind ≡ others = cc in
      let feeds = subst (λ (s : Said). Happens old (events.Piece session (piece ++ more)) s mid) (sym whole) here in
      let (one, two, between, told_first, both, feeds_first, feeds_second) = feeds_all go_on old mid session.number piece (more ∷ []) bytes told feeds in (
        one,
        two,
        told_first,
        both,
        (
          said.Fed told_first one,
          said.Fed told two ∷ behind,
          between,
          refl,
          feeds_first,
          (said.Fed told two, behind, mid, refl, feeds_second, subst (λ (ss : List Said). Plays mid after ss new) (sym all) rest),
        ),
      )
  in_two old new [] (answer ∷ answers) bytes same plays = absurd (omega arith)
  in_two old new (event ∷ before) [] bytes same plays = absurd (omega arith)
  in_two old new (event ∷ before) (answer ∷ answers) bytes same (first, others, mid, is, here, rest) =
      let head : answer ≡ first = cc in
      let tail : others ≡ answers ++ said.Fed told bytes ∷ behind = cc in
      let (one, two, told_first, both, plays) = in_two mid new before answers bytes (omega arith) (subst (λ (ss : List Said). Plays mid (before ++ events.Piece session (piece ++ more) ∷ after) ss new) tail rest) in
      (one, two, told_first, both, (answer, _, mid, refl, subst (λ (s : Said). Happens old event s mid) (sym head) here, plays))

  pub as_one : (old new : World) (before : List Event) (answers : List Said) (bytes : List ℕ) → length before ≡ length answers
      → ComesInTwo old (cut_at before answers bytes) new
      → Plays old (before ++ events.Piece session (piece ++ more) ∷ after) (answers ++ said.Fed told bytes ∷ behind) new
  as_one old new [] [] bytes same (one, two, told_first, both, (first, others, mid, is, here, (second, others', mid', is', here', rest))) =
      let first_is : said.Fed told_first one ≡ first = cc in
      let others_are : said.Fed told two ∷ behind ≡ second ∷ others' = cc in
      let second_is : said.Fed told two ≡ second = cc in
      let behind_is : behind ≡ others' = cc in
      let feeds : FeedsAll old session.number piece (more ∷ []) bytes told mid' =
      (one, two, mid, told_first, both, subst (λ (s : Said). Happens old (events.Piece session piece) s mid) (sym first_is) here, subst (λ (s : Said). Happens mid (events.Piece session more) s mid') (sym second_is) here') in
      (said.Fed told bytes, behind, mid', refl, feeds_joined go_on old mid' session.number piece (more ∷ []) bytes told feeds, subst (λ (ss : List Said). Plays mid' after ss new) (sym behind_is) rest)
  as_one old new [] (answer ∷ answers) bytes same plays = absurd (omega arith)
  as_one old new (event ∷ before) [] bytes same plays = absurd (omega arith)
  as_one old new (event ∷ before) (answer ∷ answers) bytes same (one, two, told_first, both, (first, others, mid, is, here, rest)) =
      let head : answer ≡ first = cc in
      let tail : others ≡ answers ++ said.Fed told_first one ∷ said.Fed told two ∷ behind = cc in
      let plays = as_one mid new before answers bytes (omega arith)
      (one, two, told_first, both, subst (λ (ss : List Said). Plays mid (before ++ events.Piece session piece ∷ events.Piece session more ∷ after) ss new) tail rest) in
      (answer, _, mid, refl, subst (λ (s : Said). Happens old event s mid) (sym head) here, plays)

-- ---- a whole session

pub session_plays : (old new : World) (bytes : List ℕ) (run : Run) → IsNumbered old → (whole : IsSession old bytes run new)
    → Plays old (events_of_session whole.session bytes) (said_of_session whole.session run) new
session_plays old new bytes run numbered whole =
    let n = whole.session.number in
    let there = (opened_there old whole.begun whole.session numbered whole.opened).1 in
    let mid = world_behind n run whole.begun in
    let stands : conversation_of n mid.sessions ≡ Some run.conversation = conversation_of-with n whole.begun.sessions (reading []) run.conversation there in (
      said.Opened (Ok whole.session),
      said.Fed (fed_of run.conversation) (bytes_of run) ∷ said.Ended (unfinished_in (Some run.conversation)) ∷ [],
      whole.begun,
      refl,
      whole.opened,
      (
        said.Fed (fed_of run.conversation) (bytes_of run),
        said.Ended (unfinished_in (Some run.conversation)) ∷ [],
        mid,
        refl,
        (run.answers, refl, rw there (run, whole.heard, refl, refl, refl)),
        (said.Ended (unfinished_in (Some run.conversation)), [], new, refl, (sym (ap unfinished_in stands), whole.ended), (refl, refl)),
      ),
    )
