use Rattle.dv_core.specs.State.{standing}
use Rattle.dv_core.proofs.Bare.{bare}
use Rattle.dv_core.proofs.CursorMoves.{CursorLaws}
use Rattle.dv_core.proofs.Named.{empty_named, steps_named}
use Rattle.dv_core.proofs.Ordered.{AreWhole, CollectionLaws, UpdateLaws, empty_whole, loaded_sound, steps_sound}
use Rattle.dv_core.proofs.Unique.{UniqueLaws}
use Rattle.dv_core.proofs.Shown.{empty_shown, ended_shown, loaded_shown, steps_shown}
use Rattle.dv_core.proofs.Viewed.{loaded_indexes, loaded_views, steps_views}
use Rattle.dv_core.proofs.laws.states_stay_sound.Goals as goal

pub returns : goal.returns
returns c =
    let laws : CollectionLaws = record {
      inserted_ascend = c.inserted_documents_ascend.ensures;
      inserted_ids = c.inserted_documents_begin_with_ids.ensures;
      removed_ascend = c.removed_documents_ascend.ensures;
      removed_ids = c.removed_documents_begin_with_ids.ensures;
      replaced_ascend = c.replaced_documents_ascend.ensures;
      id_stays = c.the_id_stays.ensures;
      fits = c.what_comes_out_fits.ensures;
      replaced_ids = c.replaced_documents_begin_with_ids.ensures;
    } in
    let unique : UniqueLaws = record {
      inserted_apart = c.an_insert_without_a_clash_breaks_nothing.ensures;
      replaced_apart = c.a_replacement_without_a_clash_breaks_nothing.ensures;
      removed_apart = c.a_removal_breaks_nothing.ensures;
      none_apart = c.nothing_is_broken_by_no_document.ensures;
      fewer_apart = c.fewer_indexes_break_no_more.ensures;
      one_by_one = c.indexes_break_one_by_one.ensures;
    } in
    let updates : UpdateLaws = record { of_entries = c.the_update_of_an_entry_is_sound.ensures; stays_valid = c.what_comes_out_is_valid.ensures } in
    let changes = c.a_change_leaves_other_cursors.ensures in
    let cursors : CursorLaws = record { added_at = changes.added; advanced_at = changes.advanced; closed_at = changes.closed; ended_at = changes.ended; next_stays = changes.next; front = c.a_batch_is_a_front.ensures } in
    let asks = c.what_is_asked_is_sound.ensures in
    record {
      before = record { documents = λ namespace. (empty_whole namespace).documents; indexes = empty_named; unique = λ namespace. (empty_whole namespace).unique; views = tt; cursors = empty_shown };
      after = λ old new session command outcome sound all steps. (
          let left = standing old.marks new in
          let does = bare old new session command outcome steps in
          let whole : AreWhole left = steps_sound laws unique asks updates old left session command outcome sound (λ namespace. record { documents = all.documents namespace; unique = all.unique namespace }) does in
          record {
            documents = λ namespace. (whole namespace).documents;
            unique = λ namespace. (whole namespace).unique;
            indexes = steps_named asks old left session command outcome sound all.indexes does;
            views = steps_views asks old left session command outcome sound all.views does;
            cursors = steps_shown cursors asks c.what_comes_out_is_valid-2.ensures old left session command outcome sound all.documents all.views all.cursors does;
          });
      loaded = λ old new namespace d sound all is. (
          let whole : AreWhole new = loaded_sound laws unique old new namespace d sound (λ name. record { documents = all.documents name; unique = all.unique name }) is in
          record {
            documents = λ name. (whole name).documents;
            unique = λ name. (whole name).unique;
            indexes = loaded_indexes old new namespace d is all.indexes;
            views = loaded_views old new namespace d is all.views;
            cursors = loaded_shown old new namespace d is all.cursors;
          });
      ended = λ session state all. record { documents = all.documents; indexes = all.indexes; unique = all.unique; views = all.views; cursors = ended_shown cursors session state all.cursors };
    }
