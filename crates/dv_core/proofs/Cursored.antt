-- A cursor, from its find or aggregate on.
use Rattle.std.proofs.Common.{◌≡◌, ◌≢◌, ◌⊎◌, inl, inr, ℕ, ℤ, pos, ◌<◌, ◌==◌, ◌&&◌, not, Bool, true, false, List, [], ◌∷◌, ◌++◌, map, Option, Some, None, Result, Ok, Err, if◌then◌else◌, refl, sym, ap, subst, ◌∙◌, append_assoc, append-nil, arith, eq-eqb}
use Rattle.dv_value.specs.Tree.{Field}
use Rattle.dv_command.specs.Asked.{Asked, Aggregate, Find, GetMore, find, aggregate, get_more, asked_by}
use Rattle.dv_command.specs.Replies.{document_of, first_batch_reply, next_batch_reply}
use Rattle.dv_command.specs.declared.command.Command.{Command}
use Rattle.dv_refusal.specs.declared.refusal.Refusal.{Refusal}
use Rattle.dv_refusal.specs.declared.refusal.Refusal.TheVariants.{TooLarge}
use Rattle.dv_value.specs.Results.{◌>>=◌}
use Rattle.dv_catalog.specs.Scan.{scan}
use Rattle.dv_catalog.specs.State as stored
use Rattle.dv_catalog.specs.State.{rows_of}
use Rattle.dv_catalog.specs.Views.{aggregated}
use Rattle.dv_cursor.specs.Batch.{batch, rows_behind}
use Rattle.dv_cursor.specs.Cursors.{Cursors, added, free_id, rows_to_come}
use Rattle.dv_cursor.specs.Inner.Runs.{is_cursor_place}
use Rattle.dv_core.specs.declared.outcome.Outcome.{Outcome}
use Rattle.dv_core.specs.declared.outcome.Outcome.TheVariants.{Reply, Wanting, NoReply}
use Rattle.dv_core.specs.Find.{has_too_large, first_batch, kept, kept_under, kept_by_cursor, replied}
use Rattle.dv_core.specs.More.{id_behind, next_of, cursor_number, rows_asked, rows_wanted}
use Rattle.dv_core.specs.Runs.{Move, carries, wants, state_after_move, state_behind_all, is_cursor_number, next_rows, is_nil, is_last_batch, asked_rows, asked_last, rows_told, tells_last, all_told, is_told_out, BatchesAreFront, IsToldOf, Shows}
use Rattle.dv_core.specs.State.{State, empty_store_state}
use Rattle.dv_core.specs.Statements.{WriteSteps}
use Rattle.dv_core.specs.Step.{Answer, answered, answer_to, on_cursors, step, asked_write}
use Rattle.dv_core.proofs.Bare.{BareCut, BareStep, BareWants, BareWriteCut}
use Rattle.dv_core.proofs.CursorMoves.{CursorLaws, Rows, ToldOf, at, each_moves, run}

-- ---- from a find or an aggregate on

module _ (laws : CursorLaws) where
  -- if the next id is above 0, it stays above 0
  above_zero : (moves : List Move) (state : State) → 0 < state.cursors.next → 0 < (state_behind_all moves state).cursors.next
  above_zero [] state above = above
  above_zero (move ∷ moves) state above =
      let moved = each_moves laws 0 0 move state above in
      above_zero moves (state_after_move move state) (omega (arith, moved.next))

  own_place : (session next : ℕ) → is_cursor_place session next session next ≡ true
  own_place session next = (λ i. eq-eqb session session refl i && eq-eqb next next refl i)

  module _ (session : ℕ) (namespace : List ℕ) (count : ℕ) (rows : Rows) where
    told_made : (b : Bool) (made told : List Field × Cursors) → (if b then Err TooLarge else Ok made) ≡ Ok told → made ≡ told
    told_made true made told is = absurd cc
    told_made false made told is = cc

    none_kept : (single : Bool) → kept_by_cursor count single rows ≡ [] → BatchesAreFront count rows [] (not single)
    none_kept true none = record {
      rest = rows_behind count rows;
      front = ap (λ (rs : Rows). rs ++ rows_behind count rows) (append-nil (batch count rows)) ∙ laws.front count rows;
      whole = λ last. absurd cc;
    }
    none_kept false none = record {
      rest = [];
      front = append-nil (batch count rows ++ []) ∙ ap (λ (rs : Rows). batch count rows ++ rs) (sym none) ∙ laws.front count rows;
      whole = λ last. refl;
    }

    kept_told : (single : Bool) (row : List Field) (left : Rows) (state : State) → kept_by_cursor count single rows ≡ row ∷ left → (moves : List Move)
        → BatchesAreFront count rows (all_told session state.cursors.next moves (record state { cursors = added session namespace (row ∷ left) state.cursors }))
        (is_told_out session state.cursors.next moves (record state { cursors = added session namespace (row ∷ left) state.cursors }))
    unfolding ToldOf
    kept_told true row left state is moves = absurd cc
    kept_told false row left state is moves =
        let after : State = record state { cursors = added session namespace (row ∷ left) state.cursors } in
        let there : at session state.cursors.next after.cursors ≡ Some (record { namespace = namespace; rows = row ∷ left }) =
        laws.added_at session state.cursors.next session namespace (row ∷ left) state.cursors ∙ rw (own_place session state.cursors.next) refl in
        let new : state.cursors.next < after.cursors.next = omega arith in
        let told = run laws session state.cursors.next moves after new (Some (record { namespace = namespace; rows = row ∷ left })) there in
        record {
          rest = told.rest;
          front = append_assoc (batch count rows) (all_told session state.cursors.next moves after) told.rest
              ∙ ap (λ (rs : Rows). batch count rows ++ rs) (told.front ∙ sym is) ∙ laws.front count rows;
          whole = told.whole;
        }

    free_is : (b : Bool) (next i : ℕ) → (if b then Some next else None) ≡ Some i → next ≡ i
    free_is true next i is = cc
    free_is false next i is = absurd cc

    kept_is : (single : Bool) (state : State) → 0 < state.cursors.next → (over : Rows) → kept_by_cursor count single rows ≡ over → (reply : List Field) (left : Cursors)
        → (kept session namespace over state.cursors >>= replied namespace count rows) ≡ Ok (reply, left) → IsToldOf session namespace count single rows reply (record state { cursors = left })
    kept_is single state above [] none reply left is =
        let made : (first_batch_reply namespace 0 (map document_of (batch count rows)), state.cursors) ≡ (reply, left) = told_made (has_too_large rows) _ _ is in
        record { id = 0; first = ap (λ (t : List Field × Cursors). t.0) (sym made); none = λ zero. none_kept single none; later = λ other. absurd (other refl) }
    kept_is single state above (row ∷ over) some reply left is = by_free (free_id state.cursors) refl is
      where
        by_free : (free : Option ℕ) → free_id state.cursors ≡ free → (kept_under free session namespace (row ∷ over) state.cursors >>= replied namespace count rows) ≡ Ok (reply, left)
            → IsToldOf session namespace count single rows reply (record state { cursors = left })
        by_free None free told = absurd cc
        by_free (Some i) free told =
            let same : state.cursors.next ≡ i = free_is _ state.cursors.next i free in
            let numbered : i ≢ 0 = λ zero. omega (arith, same, zero, above) in
            let made : (first_batch_reply namespace i (map document_of (batch count rows)), added session namespace (row ∷ over) state.cursors) ≡ (reply, left) = told_made (has_too_large rows) _ _ told in
            record {
              id = i;
              first = ap (λ (t : List Field × Cursors). t.0) (sym made);
              none = λ zero. absurd (numbered zero);
              later = λ other moves. subst (λ (n : ℕ). BatchesAreFront count rows (all_told session n moves (record state { cursors = left })) (is_told_out session n moves (record state { cursors = left }))) same
                  (subst (λ (c : Cursors). BatchesAreFront count rows (all_told session state.cursors.next moves (record state { cursors = c })) (is_told_out session state.cursors.next moves (record state { cursors = c }))) (ap (λ (t : List Field × Cursors). t.1) made)
                  (kept_told single row over state some moves));
            }

    shown : (single : Bool) (state : State) → 0 < state.cursors.next → (result : Result (List Field × Cursors) Refusal) → first_batch session namespace count single rows state.cursors ≡ result
        → Shows session namespace count single rows state (answered state (on_cursors state result))
    shown single state above (Ok told) is = inr (kept_is single state above (kept_by_cursor count single rows) refl told.0 told.1 is)
    shown single state above (Err refusal) is = inl (refusal, refl)

  pub find_told : (before : List Move) (session : ℕ) (command : Command) (asked : Find) → asked_by command ≡ Ok (find asked)
      → Shows session asked.namespace asked.batch_size asked.single_batch (scan asked.filter asked.sort asked.skip asked.limit (rows_of asked.namespace (state_behind_all before empty_store_state).catalog))
      (state_behind_all before empty_store_state) (step (state_behind_all before empty_store_state) session command)
  find_told before session command asked asks =
      let state : State = state_behind_all before empty_store_state in
      let rows : Rows = scan asked.filter asked.sort asked.skip asked.limit (rows_of asked.namespace state.catalog) in
      subst (λ (r : Result Asked Refusal). Shows session asked.namespace asked.batch_size asked.single_batch rows state (answered state (r >>= answer_to state session))) (sym asks)
      (shown session asked.namespace asked.batch_size rows asked.single_batch state (above_zero before empty_store_state (omega arith)) _ refl)

  pub pipeline_told : (before : List Move) (session : ℕ) (command : Command) (asked : Aggregate) → asked_by command ≡ Ok (aggregate asked)
      → Shows session asked.namespace asked.batch_size false (aggregated asked.stages asked.namespace (state_behind_all before empty_store_state).catalog)
      (state_behind_all before empty_store_state) (step (state_behind_all before empty_store_state) session command)
  pipeline_told before session command asked asks =
      let state : State = state_behind_all before empty_store_state in
      let rows : Rows = aggregated asked.stages asked.namespace state.catalog in
      subst (λ (r : Result Asked Refusal). Shows session asked.namespace asked.batch_size false rows state (answered state (r >>= answer_to state session))) (sym asks)
      (shown session asked.namespace asked.batch_size rows false state (above_zero before empty_store_state (omega arith)) _ refl)

  -- ---- what a getMore replies

  id_is : (id : ℕ) (left : Rows) → id_behind id left ≡ (if is_nil left then 0 else id)
  id_is id [] = refl
  id_is id (row ∷ left) = refl

  found_reply : (state : State) (session id count : ℕ) (namespace : List ℕ) (rows : Rows) (b : Bool) → b ≡ true → (found : Option Rows) → found ≡ Some rows
      → (answered state (on_cursors state (next_of session namespace id count found state.cursors))).reply
      ≡ next_batch_reply namespace (if b && is_last_batch count found then 0 else id) (map document_of (if b then next_rows count found else []))
  found_reply state session id count namespace rows false own found is = absurd cc
  found_reply state session id count namespace rows true own None is = absurd cc
  found_reply state session id count namespace rows true own (Some others) is =
      ap (λ (n : ℕ). next_batch_reply namespace n (map document_of (batch (rows_wanted count others) others))) (id_is id (rows_behind (rows_wanted count others) others))

  pub more_told : (state : State) (session id : ℕ) (command : Command) (asked : GetMore) (rows : Rows) → asked_by command ≡ Ok (get_more asked) → asked.id ≡ pos id
      → rows_to_come session asked.namespace id state.cursors ≡ Some rows
      → (step state session command).reply
      ≡ next_batch_reply asked.namespace (if tells_last session id (carries session command) state then 0 else id) (map document_of (rows_told session id (carries session command) state))
  more_told state session id command asked rows asks number there =
      subst (λ (r : Result Asked Refusal). (answered state (r >>= answer_to state session)).reply
      ≡ next_batch_reply asked.namespace (if asked_last session id session r state then 0 else id) (map document_of (asked_rows session id session r state))) (sym asks)
      (subst (λ (z : ℤ). (answered state (on_cursors state (next_of session asked.namespace (cursor_number z) asked.batch_size (rows_asked session asked.namespace z state.cursors) state.cursors))).reply
      ≡ next_batch_reply asked.namespace (if ((session == session) && is_cursor_number id z) && is_last_batch asked.batch_size (rows_asked session asked.namespace z state.cursors) then 0 else id)
      (map document_of (if (session == session) && is_cursor_number id z then next_rows asked.batch_size (rows_asked session asked.namespace z state.cursors) else []))) (sym number)
      (found_reply state session id asked.batch_size asked.namespace rows (is_cursor_place session id session id) (own_place session id) (rows_to_come session asked.namespace id state.cursors) there))

-- ---- running out of memory

write_wants : (old : State) (write : Option WriteSteps) (answer : Answer) → BareWriteCut old write answer → (catalog : stored.State) × (answer.state ≡ state_after_move (wants catalog) old)
write_wants old None answer cut = absurd cut
write_wants old (Some write) answer (on, (left, is_cut, answers)) = (record old.catalog { namespaces = left.namespaces }, ap (λ (a : Answer). a.state) answers)

cut_wants : (old : State) (asked : Result Asked Refusal) (answer : Answer) → BareCut old asked answer → (catalog : stored.State) × (answer.state ≡ state_after_move (wants catalog) old)
cut_wants old (Ok asked) answer cut = write_wants old (asked_write asked) answer cut
cut_wants old (Err refusal) answer cut = absurd cut

answer_wants : (old : State) (command : Command) (answer : Answer) → BareWants old command answer → (catalog : stored.State) × (answer.state ≡ state_after_move (wants catalog) old)
answer_wants old command answer (inl refused) = (old.catalog, ap (λ (a : Answer). a.state) refused)
answer_wants old command answer (inr cut) = cut_wants old (asked_by command) answer cut

pub memory_moves : (old new : State) (session : ℕ) (command : Command) (outcome : Outcome) → BareStep old session command outcome new
    → (new ≡ state_after_move (carries session command) old) ⊎ ((catalog : stored.State) × (new ≡ state_after_move (wants catalog) old))
memory_moves old new session command (Reply reply) is = inl (ap (λ (a : Answer). a.state) (sym is))
memory_moves old new session command (Wanting reply) is = inr (answer_wants old command (record { reply = reply; state = new }) is)
memory_moves old new session command NoReply (inl is) = inl is
memory_moves old new session command NoReply (inr (answer, lacks, is)) =
    let left = answer_wants old command answer lacks in
    inr (left.0, is ∙ left.1)
