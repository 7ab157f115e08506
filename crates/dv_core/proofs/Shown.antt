-- The rows not yet returned by each cursor can be returned.
use Rattle.std.proofs.Common.{◌≡◌, ◌⊎◌, inl, inr, ℕ, zero, suc, ℤ, ◌==◌, not, Bool, true, false, List, [], ◌∷◌, length, Option, Some, None, is_some, Result, Ok, Err, if◌then◌else◌, refl, sym, ap, subst}
use Rattle.std.specs.FinMap as finite
use Rattle.std.specs.List.{list_all}
use Rattle.std.specs.Str.{bytes_eq}
use lib.ListN.{drop as behind_first}
use Rattle.dv_value.specs.Spelling.{AreFields}
use Rattle.dv_value.specs.Tree.{Field, fields_of}
use Rattle.dv_catalog.specs.Scan.{scan}
use Rattle.dv_catalog.specs.Inner.ScanLaws.{all_scanned}
use Rattle.dv_catalog.specs.State as stored
use Rattle.dv_catalog.specs.State.{rows_of}
use Rattle.dv_command.specs.Asked.{Asked, find, aggregate, get_more, kill_cursors, asked_by}
use Rattle.dv_pipe.specs.Laws.{AreSpellable}
use Rattle.dv_command.specs.Inner.Sound.{IsSoundRequest}
use Rattle.dv_command.specs.declared.command.Command.{Command}
use Rattle.dv_cursor.specs.Batch.{batch}
use Rattle.dv_cursor.specs.Cursors.{Cursor, Cursors, added, advanced, closed, cursor_behind, cursor_over, free_id, place_cmp, rows_to_come, cursor_rows}
use Rattle.dv_cursor.specs.Inner.Runs.{is_cursor_place}
use Rattle.dv_value.specs.Results.{◌>>=◌}
use Rattle.dv_refusal.specs.declared.refusal.Refusal.{Refusal}
use Rattle.dv_refusal.specs.declared.refusal.Refusal.TheVariants.{TooLarge}
use Rattle.dv_core.specs.Find.{has_too_large, reply_to_find, first_batch, reply_to_aggregate, kept, kept_under, kept_by_cursor, replied}
use Rattle.dv_core.specs.Load.{loaded}
use Rattle.dv_core.specs.More.{next_of, cursor_number, rows_asked, rows_wanted, without_cursor, without_cursors}
use Rattle.dv_core.specs.Runs.{carries, wants, state_after_move}
use Rattle.dv_core.specs.Sound.{AreShown, AreSoundCursors, AreSoundDocuments, AreSoundViews, IsSoundCommand}
use Rattle.dv_core.specs.State.{State, empty_store_state}
use Rattle.dv_core.specs.Step.{answered, answer_to, on_cursors, end_session, task_of}
use Rattle.dv_core.specs.Storable.{is_within_limits}
use Rattle.dv_core.specs.declared.outcome.Outcome.{Outcome}
use Rattle.dv_core.proofs.Bare.{BareStep}
use Rattle.dv_core.proofs.Asking.{AsksSoundly, body_size, soundly_asked}
use Rattle.dv_core.proofs.CursorMoves.{CursorLaws, at}
use Rattle.dv_core.proofs.Cursored.{memory_moves}
use Rattle.dv_core.proofs.Spelled.{both_hold}
use Rattle.dv_core.proofs.Viewed.{PipesStayValid, gathered_valid, loaded_leaves, rows_valid}
use Rattle.dv_core.proofs.Works.{work_cursors}

abbrev Rows : Type 0
Rows = List (List Field)

-- the rows of a cursor can be returned, if it is one of the namespace
abbrev IsShown : List ℕ → Option Cursor → Type 0
IsShown namespace cursor = AreShown (cursor_rows namespace cursor)

abbrev Shown : Cursors → Type 0
Shown cursors = (session : ℕ) (namespace : List ℕ) (id : ℕ) → AreShown (rows_to_come session namespace id cursors)

-- ---- rows

behind_shown : (n : ℕ) (rows : Rows) → AreShown (Some rows) → AreShown (Some (behind_first n rows))
behind_shown zero rows shown = shown
behind_shown (suc n) [] shown = shown
behind_shown (suc n) (row ∷ rows) shown =
    behind_shown n rows (shown.0.1, ap not (both_hold (is_within_limits row) (list_all is_within_limits rows) shown.1).1)

left_shown : (count : ℕ) (single : Bool) (rows : Rows) → AreShown (Some rows) → AreShown (Some (kept_by_cursor count single rows))
left_shown count true rows shown = (tt, refl)
left_shown count false rows shown = behind_shown (length (batch count rows)) rows shown

-- the rows of a cursor, if it is over this namespace
if_named : (b : Bool) (rows : Rows) → AreShown (Some rows) → AreShown (if b then Some rows else None)
if_named true rows shown = shown
if_named false rows shown = tt

cursor_shown : (count : ℕ) (namespace : List ℕ) (cursor : Option Cursor) → IsShown namespace cursor → IsShown namespace (cursor_behind count cursor)
cursor_shown count namespace None shown = tt
cursor_shown count namespace (Some cursor) shown = over (behind_first count cursor.rows) (by_name (bytes_eq namespace cursor.namespace) shown)
  where
    by_name : (b : Bool) → AreShown (if b then Some cursor.rows else None) → AreShown (if b then Some (behind_first count cursor.rows) else None)
    by_name true all = behind_shown count cursor.rows all
    by_name false all = tt

    over : (left : Rows) → AreShown (if bytes_eq namespace cursor.namespace then Some left else None) → IsShown namespace (cursor_over cursor.namespace left)
    over [] all = tt
    over (row ∷ left) all = all

-- ---- cursors that are changed

changed_shown : (namespace : List ℕ) (is : Bool) (after new old : Option Cursor) → after ≡ (if is then new else old) → IsShown namespace new → IsShown namespace old → IsShown namespace after
changed_shown namespace true after new old same shown all = subst (IsShown namespace) (sym same) shown
changed_shown namespace false after new old same shown all = subst (IsShown namespace) (sym same) all

same_shown : (old new : Cursors) → new ≡ old → Shown old → Shown new
same_shown old new same all = subst Shown (sym same) all

-- the cursors that a command leaves, if it isn't refused
abbrev Leaves : Result (List Field × Cursors) Refusal → Type 0
Leaves (Ok done) = Shown done.1
Leaves (Err refusal) = Unit {0}

left_by_command : (old : State) (defined : Result (List Field × Cursors) Refusal) → Shown old.cursors → Leaves defined → AreSoundCursors (answered old (on_cursors old defined)).state
left_by_command old (Ok done) all left = left
left_by_command old (Err refusal) all left = all

module _ (laws : CursorLaws) where
  added_shown : (other : ℕ) (namespace : List ℕ) (rows : Rows) (cursors : Cursors) → AreShown (Some rows) → Shown cursors → Shown (added other namespace rows cursors)
  added_shown other namespace rows cursors shown all session asked id =
      changed_shown asked (is_cursor_place other cursors.next session id) _ _ _ (laws.added_at session id other namespace rows cursors) (if_named (bytes_eq asked namespace) rows shown) (all session asked id)

  advanced_shown : (other number count : ℕ) (cursors : Cursors) → Shown cursors → Shown (advanced other number count cursors)
  advanced_shown other number count cursors all session asked id =
      changed_shown asked (is_cursor_place other number session id) _ _ _ (laws.advanced_at session id other number count cursors) (cursor_shown count asked (at other number cursors) (all other asked number)) (all session asked id)

  closed_shown : (other number : ℕ) (cursors : Cursors) → Shown cursors → Shown (closed other number cursors)
  closed_shown other number cursors all session asked id = changed_shown asked (is_cursor_place other number session id) _ None _ (laws.closed_at session id other number cursors) tt (all session asked id)

  pub ended_shown : (other : ℕ) (state : State) → AreSoundCursors state → AreSoundCursors (end_session other state)
  ended_shown other state all session asked id = changed_shown asked (session == other) _ None _ (laws.ended_at session id other state.cursors) tt (all session asked id)

  -- ---- commands on cursors

  module _ (session : ℕ) (namespace : List ℕ) (cursors : Cursors) (all : Shown cursors) where
    module _ (count : ℕ) (rows : Rows) (valid : AreSpellable rows) where
      replied_shown : (told : ℕ × Cursors) (b : Bool) → has_too_large rows ≡ b → (AreShown (Some rows) → Shown told.1) → (reply : List Field) → Leaves (if b then Err TooLarge else Ok (reply, told.1))
      replied_shown told true large left reply = tt
      replied_shown told false fit left reply = left (valid, fit)

      kept_shown : (left : Rows) → (AreShown (Some rows) → AreShown (Some left)) → Leaves (kept session namespace left cursors >>= replied namespace count rows)
      kept_shown [] shown = replied_shown (0, cursors) (has_too_large rows) refl (λ fit. all) _
      kept_shown (row ∷ left) shown = by_free (free_id cursors)
        where
          by_free : (free : Option ℕ) → Leaves (kept_under free session namespace (row ∷ left) cursors >>= replied namespace count rows)
          by_free None = tt
          by_free (Some id) = replied_shown (id, added session namespace (row ∷ left) cursors) (has_too_large rows) refl (λ fit. added_shown session namespace (row ∷ left) cursors (shown fit) all) _

      first_shown : (single : Bool) → Leaves (first_batch session namespace count single rows cursors)
      first_shown single = kept_shown (kept_by_cursor count single rows) (left_shown count single rows)

    next_shown : (id count : ℕ) (rows : Option Rows) → Leaves (next_of session namespace id count rows cursors)
    next_shown id count None = tt
    next_shown id count (Some rows) = advanced_shown session id (length (batch (rows_wanted count rows) rows)) cursors all

  without_shown : (session : ℕ) (namespace : List ℕ) (ids : List ℤ) (cursors : Cursors) → Shown cursors → Shown (without_cursors session namespace ids cursors)
  without_shown session namespace [] cursors all = all
  without_shown session namespace (id ∷ ids) cursors all = without_shown session namespace ids (without_cursor session namespace id cursors) (by_found (is_some (rows_asked session namespace id cursors)))
    where
      by_found : (b : Bool) → Shown (if b then closed session (cursor_number id) cursors else cursors)
      by_found true = closed_shown session (cursor_number id) cursors all
      by_found false = all

  -- ---- each step

  module _ (asks : AsksSoundly) (pipes : PipesStayValid) (old : State) (documents : AreSoundDocuments old) (views : AreSoundViews old) (all : AreSoundCursors old) (session : ℕ) where
    asked_shown : (size : ℕ) (asked : Asked) → IsSoundRequest size asked → AreSoundCursors (answered old (answer_to old session asked)).state
    asked_shown size (find f) sound =
        let rows : Rows = rows_of f.namespace old.catalog in
        left_by_command old (reply_to_find session f old.catalog old.cursors) all
        (first_shown session f.namespace old.cursors all f.batch_size (scan f.filter f.sort f.skip f.limit rows)
        (all_scanned (λ d. AreFields (fields_of d)) f.filter f.sort f.skip f.limit rows (rows_valid pipes old documents views f.namespace)) f.single_batch)
    asked_shown size (aggregate a) sound =
        left_by_command old (reply_to_aggregate session a old.catalog old.cursors) all
        (first_shown session a.namespace old.cursors all a.batch_size _ (gathered_valid pipes old documents views a.stages a.namespace sound.1) false)
    asked_shown size (get_more g) sound =
        left_by_command old (next_of session g.namespace (cursor_number g.id) g.batch_size (rows_asked session g.namespace g.id old.cursors) old.cursors) all
        (next_shown session g.namespace old.cursors all (cursor_number g.id) g.batch_size (rows_asked session g.namespace g.id old.cursors))
    asked_shown size (kill_cursors k) sound = without_shown session k.namespace k.ids old.cursors all
    asked_shown size asked sound = same_shown old.cursors _ (work_cursors old (task_of old session asked) tt) all

    command_shown : (command : Command) → IsSoundCommand command → (asked : Result Asked Refusal) → asked_by command ≡ asked → AreSoundCursors (answered old (asked >>= answer_to old session)).state
    command_shown command sound (Ok asked) is = asked_shown (body_size command) asked (soundly_asked asks command asked sound is)
    command_shown command sound (Err refusal) is = all

  pub steps_shown : AsksSoundly → PipesStayValid → (old new : State) (session : ℕ) (command : Command) (outcome : Outcome) → IsSoundCommand command → AreSoundDocuments old → AreSoundViews old → AreSoundCursors old
      → BareStep old session command outcome new → AreSoundCursors new
  steps_shown asks pipes old new session command outcome sound documents views all steps = stay (memory_moves old new session command outcome steps)
    where
      stay : (new ≡ state_after_move (carries session command) old) ⊎ ((catalog : stored.State) × (new ≡ state_after_move (wants catalog) old)) → AreSoundCursors new
      stay (inl same) = subst AreSoundCursors (sym same) (command_shown asks pipes old documents views all session command sound (asked_by command) refl)
      stay (inr (catalog, same)) = subst AreSoundCursors (sym same) all

-- ---- the first state, and a load

pub empty_shown : AreSoundCursors empty_store_state
empty_shown session namespace id = subst (IsShown namespace) (sym (finite.get-empty place_cmp (session, id))) tt

pub loaded_shown : (old new : State) (text : List ℕ) (d : List Field) → loaded text d old ≡ Ok new → AreSoundCursors old → AreSoundCursors new
loaded_shown old new text d is all = same_shown old.cursors new.cursors (loaded_leaves old new text d is).cursors all
