-- What was read of a session, as it is fed message by message.
use Rattle.std.proofs.Common.{◌≡◌, ℕ, ◌<◌, eqb, true, List, [], ◌++◌, length, take, drop, Option, Some, None, refl, sym, ap, subst, ◌∙◌, append_assoc, arith, inl, inr}
use Rattle.std.specs.List.{concat}
use Rattle.std.proofs.KnownBytes.{Appends-trans}
use Rattle.std.proofs.lemmas.List.{append-nil, take-append-drop}
use Rattle.std.proofs.lemmas.List.Folds.{concat-append}
use Rattle.dv_message.specs.Message.{Conversation}
use Rattle.dv_wire.specs.declared.hub.Fed.{Fed}
use Rattle.dv_wire.specs.declared.session.Counts.{Counts}
use Rattle.dv_wire.specs.Schedule.{World, Comes, conversation_of, in_front, world_behind}
use Rattle.dv_wire.specs.Inner.View.{AnswersAll, Came, Counted, Writes}
use Rattle.dv_wire.proofs.Counting.{Counted-append, Counted-none}
use Rattle.dv_wire.proofs.Cuts.{hears_joined, world_twice}
use Rattle.dv_wire.proofs.Fronts.{GoOn}
use Rattle.dv_wire.proofs.Worlds.{conversation_of-with}

-- ---- one piece after another

both_same : (a a' b b' : List (List ℕ)) → a ≡ a' → b ≡ b' → a ++ b ≡ a' ++ b'
both_same a a' b b' p q = cc

module _ (go_on : GoOn) (session : ℕ) where
  comes_by : (old mid new : World) (piece more : List ℕ) (answers others : List (List ℕ)) (told last : Fed) (here : Option Conversation) → conversation_of session old.sessions ≡ here
      → Comes old session piece answers told mid → Comes mid session more others last new → Comes old session (piece ++ more) (answers ++ others) last new
  comes_by old mid new piece more answers others told last None e first second =
      let (none, is, same) = rw e at first in
      let (none_more, is_last, same_last) = rw e at (subst (λ (w : World). Comes w session more others last new) same second) in
      rw e (both_same answers [] others [] none none_more, is_last, same_last)
  comes_by old mid new piece more answers others told last (Some before) e first second =
      let (one, hears, are, is, world) = rw e at first in
      let between : conversation_of session (world_behind session one old).sessions ≡ Some one.conversation = conversation_of-with session old.sessions before one.conversation e in
      let (two, hears_more, are_more, is_last, world_last) = rw between at (subst (λ (w : World). Comes w session more others last new) world second) in
      rw e (
        in_front one.answers two,
        hears_joined go_on session old.state before piece more one two hears hears_more,
        both_same answers one.answers others two.answers are are_more,
        is_last,
        world_last ∙ world_twice old session one two,
      )

  pub came_more : (old mid new : World) (piece more : List ℕ) (answers others : List (List ℕ)) (told last : Fed) → Came old session piece answers told mid → Comes mid session more others last new
      → Came old session (piece ++ more) (answers ++ others) last new
  came_more old mid new piece more answers others told last (inl (nothing, none, same)) second =
      rw (nothing, none) (inr (subst (λ (w : World). Comes w session more others last new) same second))
  came_more old mid new piece more answers others told last (inr first) second =
      inr (comes_by old mid new piece more answers others told last (conversation_of session old.sessions) refl first second)

  pub came_then : (old mid new : World) (piece more : List ℕ) (answers others : List (List ℕ)) (told last : Fed) → Came old session piece answers told mid → Came mid session more others last new
      → (now : Fed) × Came old session (piece ++ more) (answers ++ others) now new
  came_then old mid new piece more answers others told last first (inl (nothing, none, same)) =
      let all : Came old session (piece ++ []) (answers ++ []) told mid = rw (append-nil piece, append-nil answers) first in
      (told, rw (nothing, none, same) all)
  came_then old mid new piece more answers others told last first (inr second) = (last, came_more old mid new piece more answers others told last first second)

  pub came_some : (old new : World) (piece : List ℕ) (answers : List (List ℕ)) (told : Fed) → Came old session piece answers told new → 0 < length piece → Comes old session piece answers told new
  came_some old new piece answers told (inl (nothing, none, same)) some = absurd (omega (arith, ap length nothing, some))
  came_some old new piece answers told (inr comes) some = comes

-- ---- what is written

pub writes_then : (bytes left more both behind : List ℕ) (before mid after : Option (List ℕ)) → Writes bytes left before mid → both ≡ left ++ more → Writes both behind mid after → Writes (bytes ++ more) behind before after
writes_then bytes left more both behind before mid after (written, parts, taken) is (others, parts_more, taken_more) = (
  written ++ others,
  ap (λ (b : List ℕ). b ++ more) parts ∙ append_assoc written left more ∙ ap (λ (b : List ℕ). written ++ b) (sym is ∙ parts_more) ∙ sym (append_assoc written others behind),
  Appends-trans before mid after written others taken taken_more,
)

writes_left : (bytes left more : List ℕ) (before after : Option (List ℕ)) → Writes bytes left before after → Writes (bytes ++ more) (left ++ more) before after
writes_left bytes left more before after (written, parts, taken) = (written, ap (λ (b : List ℕ). b ++ more) parts ∙ append_assoc written left more, taken)

-- if nothing is left
pub none_behind : (rest dropped : List ℕ) → rest ≡ dropped → dropped ≡ [] → eqb (length rest) 0 ≡ true
none_behind rest dropped same none = rw (same, none) refl

-- ---- as far as a loop has come

-- the first part of what was read came, and of its answers these bytes are left to be written: none at the end
pub record Answering (session : ℕ) (old : World) (read rest left : List ℕ) (first now : Counts) (told : Fed) (here : World) (before after : Option (List ℕ)) : Type 0 where
  pub front : List ℕ
  pub answers : List (List ℕ)
  pub parts : read ≡ front ++ rest
  pub came : Came old session front answers told here
  pub counted : Counted first answers now
  pub writes : Writes (concat answers) left before after
  pub none_left : rest ≡ [] → left ≡ []

module _ (go_on : GoOn) (session : ℕ) (old here new : World) (read rest left : List ℕ) (first now counts : Counts) (told : Fed) (before mid : Option (List ℕ))
    (answering : Answering session old read rest left first now told here before mid) (count : ℕ) (answers : List (List ℕ)) (last : Fed) (both : List ℕ)
    (comes : Comes here session (take count rest) answers last new) (counted : Counted now answers counts) (are : both ≡ left ++ concat answers) where
  parts_more : read ≡ (answering.front ++ take count rest) ++ drop count rest
  parts_more =
      answering.parts ∙ ap (λ (b : List ℕ). answering.front ++ b) (sym (take-append-drop count rest)) ∙ sym (append_assoc answering.front (take count rest) (drop count rest))

  came_so : Came old session (answering.front ++ take count rest) (answering.answers ++ answers) last new
  came_so = came_more go_on session old here new answering.front (take count rest) answering.answers answers told last answering.came comes

  counted_so : Counted first (answering.answers ++ answers) counts
  counted_so = Counted-append answering.answers answers first now counts answering.counted counted

  writes_so : (behind : List ℕ) (after : Option (List ℕ)) → Writes both behind mid after → Writes (concat (answering.answers ++ answers)) behind before after
  writes_so behind after writes =
      subst (λ (b : List ℕ). Writes b behind before after) (sym (concat-append answering.answers answers))
      (writes_then (concat answering.answers) left (concat answers) both behind before mid after answering.writes are writes)

  -- one message more
  pub goes_on : (behind : List ℕ) (after : Option (List ℕ)) → Writes both behind mid after → (drop count rest ≡ [] → behind ≡ []) → Answering session old read (drop count rest) behind first counts last new before after
  goes_on behind after writes none = record {
    front = answering.front ++ take count rest;
    answers = answering.answers ++ answers;
    parts = parts_more;
    came = came_so;
    counted = counted_so;
    writes = writes_so behind after writes;
    none_left = none;
  }

  -- the writer fails, and the rest is heard
  pub at_failure : 0 < length read → (unwritten : List ℕ) (after : Option (List ℕ)) → Writes both unwritten mid after → (end : World) (others : List (List ℕ)) (final : Fed) (counts_end : Counts)
      → Came new session (drop count rest) others final end → Counted counts others counts_end
      → (told_last : Fed) × (left_last : List ℕ) × AnswersAll old session read first counts_end told_last left_last end before after
  at_failure some unwritten after writes end others final counts_end came counted_end =
      let all = answering.answers ++ answers in
      let (said, came_all) = came_then go_on session old new end (answering.front ++ take count rest) (drop count rest) all others last final came_so came in
      let heard = subst (λ (b : List ℕ). Came old session b (all ++ others) said end) (sym parts_more) came_all in (
        said,
        unwritten ++ concat others,
        (
          all ++ others,
          came_some go_on session old end read (all ++ others) said heard some,
          Counted-append all others first counts counts_end counted_so counted_end,
          subst (λ (b : List ℕ). Writes b (unwritten ++ concat others) before after) (sym (concat-append all others))
              (writes_left (concat all) unwritten (concat others) before after (writes_so unwritten after writes)),
        ),
      )

-- all of it came, and is answered
pub at_end : GoOn → (session : ℕ) (old new : World) (read rest left : List ℕ) (first counts : Counts) (told : Fed) (before after : Option (List ℕ)) → 0 < length read → rest ≡ []
    → Answering session old read rest left first counts told new before after → AnswersAll old session read first counts told [] new before after
at_end go_on session old new read rest left first counts told before after some end answering =
    let whole : read ≡ answering.front = answering.parts ∙ ap (λ (b : List ℕ). answering.front ++ b) end ∙ append-nil answering.front in
    let came = subst (λ (b : List ℕ). Came old session b answering.answers told new) (sym whole) answering.came in (
      answering.answers,
      came_some go_on session old new read answering.answers told came some,
      answering.counted,
      subst (λ (b : List ℕ). Writes (concat answering.answers) b before after) (answering.none_left end) answering.writes,
    )

-- ---- the rest, unanswered

pub record Hearing (session : ℕ) (old : World) (all rest : List ℕ) (first now : Counts) (here : World) : Type 0 where
  pub front : List ℕ
  pub answers : List (List ℕ)
  pub told : Fed
  pub parts : all ≡ front ++ rest
  pub came : Came old session front answers told here
  pub counted : Counted first answers now

pub hears_first : (session : ℕ) (old : World) (all : List ℕ) (counts : Counts) (told : Fed) → Hearing session old all all counts counts old
hears_first session old all counts told = record { front = []; answers = []; told = told; parts = refl; came = inl (refl, refl, refl); counted = Counted-none counts }

pub hears_next : GoOn → (session : ℕ) (old here new : World) (all rest : List ℕ) (first now counts : Counts) (count : ℕ) (answers : List (List ℕ)) (last : Fed) → Hearing session old all rest first now here
    → Comes here session (take count rest) answers last new → Counted now answers counts → Hearing session old all (drop count rest) first counts new
hears_next go_on session old here new all rest first now counts count answers last hearing comes counted = record {
  front = hearing.front ++ take count rest;
  answers = hearing.answers ++ answers;
  told = last;
  parts = hearing.parts ∙ ap (λ (b : List ℕ). hearing.front ++ b) (sym (take-append-drop count rest)) ∙ sym (append_assoc hearing.front (take count rest) (drop count rest));
  came = came_more go_on session old here new hearing.front (take count rest) hearing.answers answers hearing.told last hearing.came comes;
  counted = Counted-append hearing.answers answers first now counts hearing.counted counted;
}
