-- What one command does to one cursor.
use Rattle.std.proofs.Common.{◌≡◌, ◌⊎◌, inl, inr, ℕ, ℤ, pos, negsuc, ◌<◌, ◌≤◌, ◌==◌, ◌&&◌, ◌||◌, Bool, true, false, List, [], ◌∷◌, ◌++◌, length, Option, Some, None, is_some, Result, Ok, Err, if◌then◌else◌, refl, sym, ap, subst, ◌∙◌, append_assoc, append-nil, arith, eqb-true}
use Rattle.std.proofs.lemmas.Bool.Decides.{nat_tests}
use Rattle.std.specs.FinMap as finite
use lib.ListN.{drop as behind_first}
use Rattle.std.specs.Str.{bytes_eq}
use Rattle.dv_value.specs.Tree.{Field}
use Rattle.dv_command.specs.Asked.{Asked, find, aggregate, get_more, kill_cursors, asked_by}
use Rattle.dv_refusal.specs.declared.refusal.Refusal.{Refusal}
use Rattle.dv_refusal.specs.declared.refusal.Refusal.TheVariants.{TooLarge}
use Rattle.dv_value.specs.Results.{◌>>=◌}
use Rattle.dv_cursor.specs.Batch.{batch, rows_behind}
use Rattle.dv_cursor.specs.Cursors.{Cursor, Cursors, added, advanced, closed, cursor_behind, cursor_over, free_id, rows_to_come, cursor_rows, without_session}
use Rattle.dv_cursor.specs.Inner.Runs.{is_cursor_place}
use Rattle.dv_core.specs.Find.{has_too_large, kept, kept_under, replied}
use Rattle.dv_core.specs.More.{next_of, cursor_number, rows_asked, rows_wanted, without_cursor, without_cursors}
use Rattle.dv_core.specs.Runs.{Move, carries, ends, wants, stands, state_after_move, is_cursor_number, next_rows, is_nil, is_last_batch, asked_rows, asked_last, rows_told, tells_last, all_told, is_told_out}
use Rattle.dv_core.specs.State.{State}
use Rattle.dv_core.specs.Step.{answered, answer_to, on_cursors, end_session, task_of}
use Rattle.dv_core.proofs.Works.{work_cursors}

abbrev pub Rows : Type 0
Rows = List (List Field)

-- what holds of cursors that are changed, and of batches, by the laws of cursors
pub record CursorLaws : Type 0 where
  pub added_at : (session id other : ℕ) (namespace : List ℕ) (rows : Rows) (cursors : Cursors)
      → finite.get (added other namespace rows cursors).kept (session, id) ≡ (if is_cursor_place other cursors.next session id then Some (record { namespace = namespace; rows = rows }) else finite.get cursors.kept (session, id))
  pub advanced_at : (session id other number count : ℕ) (cursors : Cursors)
      → finite.get (advanced other number count cursors).kept (session, id) ≡ (if is_cursor_place other number session id then cursor_behind count (finite.get cursors.kept (other, number)) else finite.get cursors.kept (session, id))
  pub closed_at : (session id other number : ℕ) (cursors : Cursors)
      → finite.get (closed other number cursors).kept (session, id) ≡ (if is_cursor_place other number session id then None else finite.get cursors.kept (session, id))
  pub ended_at : (session id other : ℕ) (cursors : Cursors) → finite.get (without_session other cursors).kept (session, id) ≡ (if session == other then None else finite.get cursors.kept (session, id))
  pub next_stays : (session id count : ℕ) (cursors : Cursors) → (advanced session id count cursors).next ≡ cursors.next
  pub front : (count : ℕ) (rows : Rows) → batch count rows ++ rows_behind count rows ≡ rows

-- the cursor of a session under an id
abbrev pub at : ℕ → ℕ → Cursors → Option Cursor
at session id cursors = finite.get cursors.kept (session, id)

-- the cursor is left unchanged
pub record Stays (session id : ℕ) (before after : Cursors) (told : Rows) (last : Bool) : Type 0 where
  pub same : at session id after ≡ at session id before
  pub none : told ≡ []
  pub more : last ≡ false

-- the cursor is removed
pub record Goes (session id : ℕ) (before after : Cursors) (told : Rows) (last : Bool) : Type 0 where
  pub gone : at session id after ≡ None
  pub none : told ≡ []
  pub more : last ≡ false

-- some rows of the cursor are returned, and taken from it
pub record Tells (session id : ℕ) (before after : Cursors) (told : Rows) (last : Bool) : Type 0 where
  pub cursor : Cursor
  pub count : ℕ
  pub was : at session id before ≡ Some cursor
  pub left : at session id after ≡ cursor_over cursor.namespace (rows_behind count cursor.rows)
  pub tells : told ≡ batch count cursor.rows
  pub is_last : last ≡ is_nil (rows_behind count cursor.rows)

-- what an event does to the cursor
pub record Moves (session id : ℕ) (before after : Cursors) (told : Rows) (last : Bool) : Type 0 where
  pub does : Stays session id before after told last ⊎ (Goes session id before after told last ⊎ Tells session id before after told last)
  pub next : before.next ≤ after.next

unmoved : (session id : ℕ) (before after : Cursors) → after ≡ before → Moves session id before after [] false
unmoved session id before after same = record { does = inl (record { same = ap (at session id) same; none = refl; more = refl }); next = rw same (omega arith) }

module _ (laws : CursorLaws) (session id : ℕ) where
  -- ---- a cursor is added

  other_id : (next other : ℕ) → id < next → is_cursor_place other next session id ≡ false
  other_id next other new = grind (arith, nat_tests)

  adds : (other : ℕ) (namespace : List ℕ) (rows : Rows) (before : Cursors) → id < before.next → Moves session id before (added other namespace rows before) [] false
  adds other namespace rows before new = record {
    does = inl (record { same = laws.added_at session id other namespace rows before ∙ ap (λ (b : Bool). if b then Some (record { namespace = namespace; rows = rows }) else at session id before) (other_id before.next other new); none = refl; more = refl });
    next = omega arith;
  }

  kept_moves : (other : ℕ) (namespace : List ℕ) (left : Rows) (before : Cursors) → id < before.next → (told : ℕ × Cursors) → kept other namespace left before ≡ Ok told → Moves session id before told.1 [] false
  kept_moves other namespace [] before new told is =
      let same : (0, before) ≡ told = cc in
      unmoved session id before told.1 (ap (λ (t : ℕ × Cursors). t.1) (sym same))
  kept_moves other namespace (row ∷ left) before new told is = by_free (free_id before) is
    where
      by_free : (free : Option ℕ) → kept_under free other namespace (row ∷ left) before ≡ Ok told → Moves session id before told.1 [] false
      by_free None is = absurd cc
      by_free (Some i) is =
          let same : (i, added other namespace (row ∷ left) before) ≡ told = cc in
          subst (λ (t : ℕ × Cursors). Moves session id before t.1 [] false) same (adds other namespace (row ∷ left) before new)

  -- a command on cursors, by its defined result
  module _ (state : State) where
    abbrev Leaves : Result (List Field × Cursors) Refusal → Rows → Bool → Type 0
    Leaves defined told last = Moves session id state.cursors (answered state (on_cursors state defined)).state.cursors told last

    replied_moves : (namespace : List ℕ) (count : ℕ) (rows : Rows) (b : Bool) (reply : List Field) (left : Cursors) → Moves session id state.cursors left [] false → Leaves (if b then Err TooLarge else Ok (reply, left)) [] false
    replied_moves namespace count rows true reply left moves = unmoved session id state.cursors state.cursors refl
    replied_moves namespace count rows false reply left moves = moves

    first_moves : (namespace : List ℕ) (count : ℕ) (rows : Rows) (keeps : Result (ℕ × Cursors) Refusal) → ((told : ℕ × Cursors) → keeps ≡ Ok told → Moves session id state.cursors told.1 [] false) → Leaves (keeps >>= replied namespace count rows) [] false
    first_moves namespace count rows (Ok told) moves = replied_moves namespace count rows (has_too_large rows) _ told.1 (moves told refl)
    first_moves namespace count rows (Err refusal) moves = unmoved session id state.cursors state.cursors refl

    -- ---- getMore

    record FoundCursor (namespace : List ℕ) (there : Option Cursor) (rows : Rows) : Type 0 where
      pub cursor : Cursor
      pub is : there ≡ Some cursor
      pub has : cursor.rows ≡ rows

    found_cursor : (namespace : List ℕ) (there : Option Cursor) (rows : Rows) → cursor_rows namespace there ≡ Some rows → FoundCursor namespace there rows
    found_cursor namespace None rows is = absurd cc
    found_cursor namespace (Some cursor) rows is = record { cursor = cursor; is = refl; has = by_name (bytes_eq namespace cursor.namespace) is }
      where
        by_name : (b : Bool) → (if b then Some cursor.rows else None) ≡ Some rows → cursor.rows ≡ rows
        by_name true is = cc
        by_name false is = absurd cc

    both_true : (a b : Bool) → (a && b) ≡ true → (a ≡ true) × (b ≡ true)
    both_true true true is = (refl, refl)
    both_true true false is = absurd cc
    both_true false b is = absurd cc

    found_moves : (other : ℕ) (namespace : List ℕ) (n count : ℕ) (rows : Rows) → rows_to_come other namespace n state.cursors ≡ Some rows → (b : Bool) → is_cursor_place other n session id ≡ b
        → Moves session id state.cursors (advanced other n (length (batch (rows_wanted count rows) rows)) state.cursors) (if b then batch (rows_wanted count rows) rows else []) (b && is_nil (rows_behind (rows_wanted count rows) rows))
    found_moves other namespace n count rows there true is =
        let equal = both_true (other == session) (n == id) is in
        let own : other ≡ session = eqb-true other session equal.0 in
        let same : n ≡ id = eqb-true n id equal.1 in
        let c = found_cursor namespace (at other n state.cursors) rows there in
        let left = laws.advanced_at session id other n (length (batch (rows_wanted count rows) rows)) state.cursors in
        record {
          does = inr (inr (record {
            cursor = c.cursor;
            count = rows_wanted count rows;
            was = (λ i. at (sym own i) (sym same i) state.cursors) ∙ c.is;
            left = left
                ∙ (λ i. if is i then cursor_behind (length (batch (rows_wanted count rows) rows)) (c.is i) else at session id state.cursors)
                ∙ ap (λ (rs : Rows). cursor_over c.cursor.namespace (behind_first (length (batch (rows_wanted count rows) rs)) c.cursor.rows)) (sym c.has);
            tells = ap (batch (rows_wanted count rows)) (sym c.has);
            is_last = ap (λ (rs : Rows). is_nil (rows_behind (rows_wanted count rows) rs)) (sym c.has);
          }));
          next = omega (arith, laws.next_stays other n (length (batch (rows_wanted count rows) rows)) state.cursors);
        }
    found_moves other namespace n count rows there false is = record {
      does = inl (record { same = laws.advanced_at session id other n (length (batch (rows_wanted count rows) rows)) state.cursors ∙ rw is refl; none = refl; more = refl });
      next = omega (arith, laws.next_stays other n (length (batch (rows_wanted count rows) rows)) state.cursors);
    }

    nothing_moves : (b : Bool) → Moves session id state.cursors state.cursors (if b then [] else []) (b && false)
    nothing_moves true = unmoved session id state.cursors state.cursors refl
    nothing_moves false = unmoved session id state.cursors state.cursors refl

    more_moves : (other : ℕ) (namespace : List ℕ) (asked : ℤ) (count : ℕ) (found : Option Rows) → rows_asked other namespace asked state.cursors ≡ found
        → Moves session id state.cursors (answered state (on_cursors state (next_of other namespace (cursor_number asked) count found state.cursors))).state.cursors
        (if (other == session) && is_cursor_number id asked then next_rows count found else []) (((other == session) && is_cursor_number id asked) && is_last_batch count found)
    more_moves other namespace asked count None is = nothing_moves ((other == session) && is_cursor_number id asked)
    more_moves other namespace (pos n) count (Some rows) is = found_moves other namespace n count rows is (is_cursor_place other n session id) refl
    more_moves other namespace (negsuc n) count (Some rows) is = absurd cc

  -- ---- killCursors

  -- the cursor is left unchanged, or is removed
  LeftOrGone : Cursors → Cursors → Type 0
  LeftOrGone before after = ((at session id after ≡ at session id before) ⊎ (at session id after ≡ None)) × (before.next ≤ after.next)

  one_gone : (other : ℕ) (namespace : List ℕ) (asked : ℤ) (before : Cursors) → LeftOrGone before (without_cursor other namespace asked before)
  unfolding LeftOrGone
  one_gone other namespace asked before = by_found (is_some (rows_asked other namespace asked before))
    where
      closed_at : (b : Bool) → is_cursor_place other (cursor_number asked) session id ≡ b → (at session id (closed other (cursor_number asked) before) ≡ at session id before) ⊎ (at session id (closed other (cursor_number asked) before) ≡ None)
      closed_at true is = inr (laws.closed_at session id other (cursor_number asked) before ∙ rw is refl)
      closed_at false is = inl (laws.closed_at session id other (cursor_number asked) before ∙ rw is refl)

      by_found : (b : Bool) → LeftOrGone before (if b then closed other (cursor_number asked) before else before)
      by_found true = (closed_at (is_cursor_place other (cursor_number asked) session id) refl, omega arith)
      by_found false = (inl refl, omega arith)

  then_left : (a b c : Cursors) → LeftOrGone a b → LeftOrGone b c → LeftOrGone a c
  unfolding LeftOrGone
  then_left a b c (first, up) (inr gone, more) = (inr gone, omega (arith, up, more))
  then_left a b c (inl same, up) (inl again, more) = (inl (again ∙ same), omega (arith, up, more))
  then_left a b c (inr gone, up) (inl again, more) = (inr (again ∙ gone), omega (arith, up, more))

  each_gone : (other : ℕ) (namespace : List ℕ) (ids : List ℤ) (before : Cursors) → LeftOrGone before (without_cursors other namespace ids before)
  unfolding LeftOrGone
  each_gone other namespace [] before = (inl refl, omega arith)
  each_gone other namespace (asked ∷ ids) before =
      let next : Cursors = without_cursor other namespace asked before in
      then_left before next (without_cursors other namespace ids next) (one_gone other namespace asked before) (each_gone other namespace ids next)

  gone_moves : (before after : Cursors) → LeftOrGone before after → Moves session id before after [] false
  unfolding LeftOrGone
  gone_moves before after (inl same, up) = record { does = inl (record { same = same; none = refl; more = refl }); next = up }
  gone_moves before after (inr gone, up) = record { does = inr (inl (record { gone = gone; none = refl; more = refl })); next = up }

  -- ---- every event

  command_moves : (state : State) (other : ℕ) (asked : Result Asked Refusal) → id < state.cursors.next
      → Moves session id state.cursors (answered state (asked >>= answer_to state other)).state.cursors (asked_rows session id other asked state) (asked_last session id other asked state)
  command_moves state other (Err refusal) new = unmoved session id state.cursors state.cursors refl
  command_moves state other (Ok (find f)) new = first_moves state f.namespace f.batch_size _ (kept other f.namespace _ state.cursors) (kept_moves other f.namespace _ state.cursors new)
  command_moves state other (Ok (aggregate a)) new = first_moves state a.namespace a.batch_size _ (kept other a.namespace _ state.cursors) (kept_moves other a.namespace _ state.cursors new)
  command_moves state other (Ok (get_more g)) new = more_moves state other g.namespace g.id g.batch_size (rows_asked other g.namespace g.id state.cursors) refl
  command_moves state other (Ok (kill_cursors k)) new = gone_moves state.cursors _ (each_gone other k.namespace k.ids state.cursors)
  command_moves state other (Ok asked) new = unmoved session id state.cursors _ (work_cursors state (task_of state other asked) tt)

  session_moves : (state : State) (other : ℕ) (b : Bool) → (session == other) ≡ b → Moves session id state.cursors (end_session other state).cursors [] false
  session_moves state other true is = record { does = inr (inl (record { gone = laws.ended_at session id other state.cursors ∙ rw is refl; none = refl; more = refl })); next = omega arith }
  session_moves state other false is = record { does = inl (record { same = laws.ended_at session id other state.cursors ∙ rw is refl; none = refl; more = refl }); next = omega arith }

  pub each_moves : (move : Move) (state : State) → id < state.cursors.next → Moves session id state.cursors (state_after_move move state).cursors (rows_told session id move state) (tells_last session id move state)
  each_moves (carries other command) state new = command_moves state other (asked_by command) new
  each_moves (ends other) state new = session_moves state other (session == other) refl
  each_moves (wants catalog) state new = unmoved session id state.cursors state.cursors refl
  each_moves (stands marks) state new = unmoved session id state.cursors state.cursors refl

  -- ---- a run

  -- rows that are returned from a cursor are a prefix of its rows, and all of them once a reply says that none is left
  pub record IsFront (rows told : Rows) (out : Bool) : Type 0 where
    pub rest : Rows
    pub front : told ++ rest ≡ rows
    pub whole : out ≡ true → rest ≡ []

  pub record IsNothing (told : Rows) (out : Bool) : Type 0 where
    pub none : told ≡ []
    pub more : out ≡ false

  unfoldable pub ToldOf : Option Cursor → Rows → Bool → Type 0
  ToldOf None told out = IsNothing told out
  ToldOf (Some cursor) told out = IsFront cursor.rows told out

  told_more : (c : Option Cursor) (told : Rows) (out : Bool) → ToldOf c told out → ToldOf c ([] ++ told) (false || out)
  unfolding ToldOf
  told_more None told out is = is
  told_more (Some cursor) told out is = is

  none_left : (c : Option Cursor) (told : Rows) (out : Bool) → IsNothing told out → ToldOf c ([] ++ told) (false || out)
  unfolding ToldOf
  none_left None told out is = is
  none_left (Some cursor) told out is = record { rest = cursor.rows; front = rw is.none refl; whole = λ last. absurd (cc (is.more, last)) }

  some_left : (cursor : Cursor) (namespace : List ℕ) (taken left told : Rows) (out : Bool) → taken ++ left ≡ cursor.rows → ToldOf (cursor_over namespace left) told out → IsFront cursor.rows (taken ++ told) (is_nil left || out)
  unfolding ToldOf
  some_left cursor namespace taken [] told out all is = record { rest = []; front = rw is.none (append-nil (taken ++ []) ∙ all); whole = λ last. refl }
  some_left cursor namespace taken (row ∷ left) told out all is = record {
    rest = is.rest;
    front = append_assoc taken told is.rest ∙ ap (λ (rs : Rows). taken ++ rs) is.front ∙ all;
    whole = is.whole;
  }

  tells_by : (before : Cursors) (taken : Rows) (t-left : Rows) (later : Rows) (out : Bool) (cursor : Cursor) → at session id before ≡ Some cursor → taken ++ t-left ≡ cursor.rows → ToldOf (cursor_over cursor.namespace t-left) later out
      → (c : Option Cursor) → at session id before ≡ c → ToldOf c (taken ++ later) (is_nil t-left || out)
  unfolding ToldOf
  tells_by before taken left later out cursor was all more None is = absurd (cc (is, was))
  tells_by before taken left later out cursor was all more (Some other) is =
      let same : cursor ≡ other = cc (is, was) in
      subst (λ (d : Cursor). IsFront d.rows (taken ++ later) (is_nil left || out)) same (some_left cursor cursor.namespace taken left later out all more)

  by_effect : (before after : Cursors) (told later : Rows) (last out : Bool) → ((c : Option Cursor) → at session id after ≡ c → ToldOf c later out) → (c : Option Cursor) → at session id before ≡ c
      → Stays session id before after told last ⊎ (Goes session id before after told last ⊎ Tells session id before after told last) → ToldOf c (told ++ later) (last || out)
  unfolding ToldOf
  by_effect before after told later last out run c is (inl s) = rw (s.none, s.more) (told_more c later out (run c (s.same ∙ is)))
  by_effect before after told later last out run c is (inr (inl g)) = rw (g.none, g.more) (none_left c later out (nothing_after (run None g.gone)))
    where
      nothing_after : ToldOf None later out → IsNothing later out
      nothing_after told = told
  by_effect before after told later last out run c is (inr (inr t)) =
      rw (t.tells, t.is_last)
      (tells_by before (batch t.count t.cursor.rows) (rows_behind t.count t.cursor.rows) later out t.cursor t.was (laws.front t.count t.cursor.rows) (run (cursor_over t.cursor.namespace (rows_behind t.count t.cursor.rows)) t.left) c is)

  pub run : (moves : List Move) (state : State) → id < state.cursors.next → (c : Option Cursor) → at session id state.cursors ≡ c → ToldOf c (all_told session id moves state) (is_told_out session id moves state)
  unfolding ToldOf
  run [] state new None is = record { none = refl; more = refl }
  run [] state new (Some cursor) is = record { rest = cursor.rows; front = refl; whole = λ last. absurd cc }
  run (move ∷ moves) state new c is =
      let moved = each_moves move state new in
      let after : State = state_after_move move state in
      let up : id < after.cursors.next = omega (arith, moved.next) in
      by_effect state.cursors after.cursors (rows_told session id move state) (all_told session id moves after) (tells_last session id move state) (is_told_out session id moves after) (run moves after up) c is moved.does
