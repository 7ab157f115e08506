-- The sessions in memory, looked up by their numbers.
use Rattle.std.proofs.Common.{◌≡◌, ℕ, zero, ◌+◌, ◌-◌, ◌≤◌, ◌<◌, eqb, List, [], ◌∷◌, ◌++◌, length, get_or, set, map, Some, None, Result, Ok, Err, suc, refl, sym, ap, subst, ◌∙◌, arith, inl, inr}
use Rattle.std.specs.List.{position_from, remove}
use Rattle.std.specs.Result.{result_ok}
use Rattle.std.specs.List.Sorted.{IsSearchInRange, IsBinarySearchResult, IsNonDecreasingBy}
use Rattle.std.specs.Ordering.{nat_cmp, ordering_index}
use Rattle.std.proofs.lemmas.Bool.{eq-eqb, ne_eqb, cases_lt}
use Rattle.std.proofs.lemmas.Bool.Decides.{nat_tests}
use Rattle.std.proofs.lemmas.Cmp.{ranked}
use Rattle.std.proofs.lemmas.List.{map-append}
use Rattle.dv_wire.specs.declared.session.Conversation.{Conversation as ConversationSeen}
use Rattle.dv_wire.specs.declared.session.Session.{Session}
use Rattle.dv_message.specs.declared.shapes.Shapes.{Shapes}
use Rattle.dv_wire.specs.declared.hub.Fed.{Fed}
use Rattle.dv_wire.specs.declared.hub.Fed.TheVariants.{Unknown}
use Rattle.dv_core.specs.State.{State}
use Rattle.dv_message.specs.Message.{Conversation, reading}
use Rattle.dv_wire.specs.Schedule.{Run, World, conversation_of, with_conversation, sessions_but, fed_of, Hears, Comes}
use Rattle.dv_wire.specs.Sound.{AreNumbered}
use Rattle.dv_wire.specs.View.{conversation_seen, session_seen}
use Rattle.dv_wire.proofs.Worlds.{AreNumbered-append, AreNumbered-with, AreNumbered-but, at_next, conversation_of-append}

-- ---- found by binary search

number_least : (first : ℕ) (ss : List Session) (next k : ℕ) (d : Session) → AreNumbered first (map session_seen ss) next → k < length ss → first ≤ (get_or ss k d).number
number_least first [] next k d numbered lt = absurd (omega arith)
number_least first (s ∷ ss) next zero d numbered lt = numbered.0
number_least first (s ∷ ss) next (suc k) d numbered lt = omega (arith, numbered.0, number_least (suc s.number) ss next k d numbered.1 (omega arith))

numbers_ascend : (first : ℕ) (ss : List Session) (next i j : ℕ) (d : Session) → AreNumbered first (map session_seen ss) next → i ≤ j → j < length ss
    → (get_or ss i d).number ≤ (get_or ss j d).number
numbers_ascend first [] next i j d numbered le lt = absurd (omega arith)
numbers_ascend first (s ∷ ss) next zero zero d numbered le lt = omega arith
numbers_ascend first (s ∷ ss) next zero (suc j) d numbered le lt = omega (arith, number_least (suc s.number) ss next j d numbered.1 (omega arith))
numbers_ascend first (s ∷ ss) next (suc i) zero d numbered le lt = absurd (omega arith)
numbers_ascend first (s ∷ ss) next (suc i) (suc j) d numbered le lt = numbers_ascend (suc s.number) ss next i j d numbered.1 (omega arith) (omega arith)

module _ (n : ℕ) where
  none_from : (i : ℕ) (ss : List Session) → ((k : ℕ) (d : Session) → k < length ss → (get_or ss k d).number ≡ n → ⊥) → position_from (λ s. eqb s.number n) i ss ≡ None
  none_from i [] other = refl
  none_from i (s ∷ ss) other = rw (ne_eqb s.number n (other 0 s (omega arith))) (none_from (i + 1) ss (λ k d lt. other (suc k) d (omega arith)))

  at_from : (i first : ℕ) (ss : List Session) (next k : ℕ) (d : Session) → AreNumbered first (map session_seen ss) next → k < length ss → (get_or ss k d).number ≡ n
      → position_from (λ s. eqb s.number n) i ss ≡ Some (i + k)
  at_from i first [] next k d numbered lt same = absurd (omega arith)
  at_from i first (s ∷ ss) next zero d numbered lt same = let here : i ≡ i + 0 = omega arith in rw (eq-eqb s.number n same) (ap (λ (m : ℕ). Some m) here)
  at_from i first (s ∷ ss) next (suc k) d numbered lt same =
      let later = number_least (suc s.number) ss next k d numbered.1 (omega arith) in
      let other : s.number ≡ n → ⊥ = (λ e. omega arith) in
      let past : i + 1 + k ≡ i + suc k = omega arith in
      rw (ne_eqb s.number n other) (at_from (i + 1) (suc s.number) ss next k d numbered.1 (omega arith) same ∙ ap (λ (m : ℕ). Some m) past)

  comparisons_rise : (ss : List Session) (next : ℕ) → AreNumbered 0 (map session_seen ss) next → IsNonDecreasingBy (λ s. ordering_index (nat_cmp s.number n)) ss
  comparisons_rise ss next numbered i j d le lt =
      let rise = numbers_ascend 0 ss next i j d numbered le lt in grind (arith, nat_tests)

  -- a binary search finds the first one with the number
  pub searched : (ss : List Session) (r : Result ℕ ℕ) → ((next : ℕ) × AreNumbered 0 (map session_seen ss) next) → IsSearchInRange r (length ss) → IsBinarySearchResult (λ s. nat_cmp s.number n) ss r
      → result_ok r ≡ position_from (λ s. eqb s.number n) 0 ss
  searched [] (Ok k) numbered lt equal = absurd (omega arith)
  searched (s ∷ ss) (Ok k) numbered lt equal =
      let here : k ≡ 0 + k = omega arith in ap (λ (m : ℕ). Some m) here ∙ sym (at_from 0 0 (s ∷ ss) numbered.0 k s numbered.1 lt (ranked _ n _ (sym (equal s))))
  searched ss (Err k) numbered le parted =
      let parts = parted (comparisons_rise ss numbered.0 numbered.1) in
      sym (none_from 0 ss (λ i d lt same. elim (cases_lt i k) [
        | inl before ↦ let less = ranked _ n _ (sym (parts.0 i d (omega arith) before)) in omega (arith, less)
        | inr behind ↦ let more = ranked _ n _ (sym (parts.1 i d behind lt)) in omega (arith, more)
      ]))

remove_first : (s : Session) (ss : List Session) (j : ℕ) → j ≡ 0 → remove (s ∷ ss) j ≡ ss
remove_first s ss j e = rw e refl

remove_later : (s : Session) (ss : List Session) (j k : ℕ) → j ≡ suc k → remove (s ∷ ss) j ≡ s ∷ remove ss k
remove_later s ss j k e = rw e refl

module _ (n : ℕ) where
  within_from : (i k : ℕ) (ss : List Session) → position_from (λ s. eqb s.number n) i ss ≡ Some k → (i ≤ k) × (k < i + length ss)
  within_from i k [] place = grind arith
  within_from i k (s ∷ ss) place = grind (arith, within_from (i + 1) k ss)

  there_from : (i k : ℕ) (ss : List Session) (d : Session) → position_from (λ s. eqb s.number n) i ss ≡ Some k
      → (conversation_of n (map session_seen ss) ≡ Some (conversation_seen (get_or ss (k - i) d).conversation)) × ((get_or ss (k - i) d).number ≡ n)
  there_from i k [] d place = grind arith
  there_from i k (s ∷ ss) d place = grind (arith, within_from (i + 1) k ss, there_from (i + 1) k ss d)

  nowhere_from : (i : ℕ) (ss : List Session) → position_from (λ s. eqb s.number n) i ss ≡ None
      → (conversation_of n (map session_seen ss) ≡ None) × (sessions_but n (map session_seen ss) ≡ map session_seen ss)
  nowhere_from i [] place = grind arith
  nowhere_from i (s ∷ ss) place = grind (arith, nowhere_from (i + 1) ss)

  sessions_but_from : (i k : ℕ) (ss : List Session) → position_from (λ s. eqb s.number n) i ss ≡ Some k → sessions_but n (map session_seen ss) ≡ map session_seen (remove ss (k - i))
  sessions_but_from i k [] place = grind arith
  sessions_but_from i k (s ∷ ss) place =
      grind (arith, within_from (i + 1) k ss, sessions_but_from (i + 1) k ss, remove_first s ss (k - i), remove_later s ss (k - i) (k - (i + 1)))

  with_conversation_from : (i k : ℕ) (ss : List Session) (now : ConversationSeen) (shapes : Shapes) → position_from (λ s. eqb s.number n) i ss ≡ Some k
      → with_conversation n (conversation_seen now) (map session_seen ss) ≡ map session_seen (set ss (k - i) (record { number = n; conversation = now; shapes = shapes }))
  with_conversation_from i k [] now shapes place = grind arith
  with_conversation_from i k (s ∷ ss) now shapes place = grind (arith, within_from (i + 1) k ss, with_conversation_from (i + 1) k ss now shapes)

  pub within : (k : ℕ) (ss : List Session) → position_from (λ s. eqb s.number n) 0 ss ≡ Some k → k < length ss
  within k ss place = omega (arith, (within_from 0 k ss place).1)

  pub there : (k : ℕ) (ss : List Session) (d : Session) → position_from (λ s. eqb s.number n) 0 ss ≡ Some k
      → (conversation_of n (map session_seen ss) ≡ Some (conversation_seen (get_or ss k d).conversation)) × ((get_or ss k d).number ≡ n)
  there k ss d place = let here : k - 0 ≡ k = omega arith in rw here at (there_from 0 k ss d place)

  pub nowhere : (ss : List Session) → position_from (λ s. eqb s.number n) 0 ss ≡ None
      → (conversation_of n (map session_seen ss) ≡ None) × (sessions_but n (map session_seen ss) ≡ map session_seen ss)
  nowhere ss place = nowhere_from 0 ss place

  pub sessions_but-remove : (k : ℕ) (ss : List Session) → position_from (λ s. eqb s.number n) 0 ss ≡ Some k → sessions_but n (map session_seen ss) ≡ map session_seen (remove ss k)
  sessions_but-remove k ss place = let here : k - 0 ≡ k = omega arith in rw here at (sessions_but_from 0 k ss place)

  with_conversation-set : (k : ℕ) (ss : List Session) (now : ConversationSeen) (shapes : Shapes) → position_from (λ s. eqb s.number n) 0 ss ≡ Some k
      → with_conversation n (conversation_seen now) (map session_seen ss) ≡ map session_seen (set ss k (record { number = n; conversation = now; shapes = shapes }))
  with_conversation-set k ss now shapes place = let here : k - 0 ≡ k = omega arith in rw here at (with_conversation_from 0 k ss now shapes place)

  -- the sessions stay in order if one of them changes, and if one is removed
  pub numbered_set : (k : ℕ) (ss : List Session) (next : ℕ) (before after : Session) → position_from (λ s. eqb s.number n) 0 ss ≡ Some k → before ≡ get_or ss k before → after.number ≡ before.number
      → AreNumbered 0 (map session_seen ss) next → AreNumbered 0 (map session_seen (set ss k after)) next
  numbered_set k ss next before after place here same numbered =
      let number : after.number ≡ n = same ∙ ap (λ (s : Session). s.number) here ∙ (there k ss before place).1 in
      let set_to : record { number = n; conversation = after.conversation; shapes = after.shapes } ≡ after = ap (λ (m : ℕ). record { number = m; conversation = after.conversation; shapes = after.shapes }) (sym number) in
      subst (λ (s : Session). AreNumbered 0 (map session_seen (set ss k s)) next) set_to
      (subst (λ (seen : List (ℕ × Conversation)). AreNumbered 0 seen next) (with_conversation-set k ss after.conversation after.shapes place)
      (AreNumbered-with n 0 (conversation_seen after.conversation) (map session_seen ss) next numbered))

  pub numbered_but : (k : ℕ) (ss : List Session) (next : ℕ) → position_from (λ s. eqb s.number n) 0 ss ≡ Some k → AreNumbered 0 (map session_seen ss) next
      → AreNumbered 0 (map session_seen (remove ss k)) next
  numbered_but k ss next place numbered =
      subst (λ (seen : List (ℕ × Conversation)). AreNumbered 0 seen next) (sessions_but-remove k ss place) (AreNumbered-but n 0 (map session_seen ss) next numbered)

  -- the world of these sessions
  abbrev pub world : State → ℕ → List Session → World
  world state next ss = record { state = state; next = next; sessions = map session_seen ss }

  -- a session that isn't there takes nothing
  pub comes_to_nobody : (state : State) (next : ℕ) (ss : List Session) (piece : List ℕ) → position_from (λ s. eqb s.number n) 0 ss ≡ None
      → Comes (world state next ss) n piece [] Unknown (world state next ss)
  comes_to_nobody state next ss piece place = rw (nowhere ss place).0 (refl, refl, refl)

  -- what one session takes is what the world takes
  pub comes_to_one : (old state : State) (next k : ℕ) (ss : List Session) (before after : Session) (piece : List ℕ) (answers : List (List ℕ)) (answer : Fed)
      → position_from (λ s. eqb s.number n) 0 ss ≡ Some k → before ≡ get_or ss k before
      → Hears before.number old (conversation_seen before.conversation) piece (record { answers = answers; state = state; conversation = conversation_seen after.conversation })
      → answer ≡ fed_of (conversation_seen after.conversation) → after.number ≡ before.number
      → Comes (world old next ss) n piece answers answer (world state next (set ss k after))
  comes_to_one old state next k ss before after piece answers answer place here hears tells same =
      let seen = there k ss before place in
      let number : before.number ≡ n = ap (λ s. s.number) here ∙ seen.1 in
      let set_to : record { number = n; conversation = after.conversation; shapes = after.shapes } ≡ after = ap (λ m. record { number = m; conversation = after.conversation; shapes = after.shapes }) (sym (same ∙ number)) in
      let now_there : conversation_of n (map session_seen ss) ≡ Some (conversation_seen before.conversation) = seen.0 ∙ ap (λ s. Some (conversation_seen s.conversation)) (sym here) in
      let run : Run = record { answers = answers; state = state; conversation = conversation_seen after.conversation } in
      rw now_there (run, rw (← number) hears, refl, tells, rw (with_conversation-set k ss after.conversation after.shapes place, set_to) refl)

-- and if one is opened
pub numbered_more : (ss new : List Session) (next : ℕ) (s : Session) → AreNumbered 0 (map session_seen ss) next → new ≡ ss ++ s ∷ [] → s.number ≡ next → AreNumbered 0 (map session_seen new) (next + 1)
numbered_more ss new next s numbered is same =
    let one : suc next ≡ next + 1 = omega arith in
    let seen : map session_seen ss ++ session_seen s ∷ [] ≡ map session_seen new = sym (map-append session_seen ss (s ∷ [])) ∙ ap (map session_seen) (sym is) in
    subst (λ (m : ℕ). AreNumbered 0 (map session_seen new) m) one
    (subst (λ (seen : List (ℕ × Conversation)). AreNumbered 0 seen (suc next)) seen
    (subst (λ (m : ℕ). AreNumbered 0 (map session_seen ss ++ (m, conversation_seen s.conversation) ∷ []) (suc next)) (sym same)
    (AreNumbered-append 0 (map session_seen ss) next (conversation_seen s.conversation) numbered)))

pub opened_seen : (ss new : List Session) (next : ℕ) (s : Session) → AreNumbered 0 (map session_seen ss) next → new ≡ ss ++ s ∷ [] → s.number ≡ next → conversation_seen s.conversation ≡ reading []
    → conversation_of next (map session_seen new) ≡ Some (reading [])
opened_seen ss new next s numbered is same empty =
    ap (λ (all : List Session). conversation_of next (map session_seen all)) is
    ∙ ap (conversation_of next) (map-append session_seen ss (s ∷ []))
    ∙ conversation_of-append next s.number (map session_seen ss) (conversation_seen s.conversation) (at_next 0 (map session_seen ss) next numbered) same
    ∙ ap Some empty
