use Rattle.dv_core.specs.State.{empty_store_state, standing}
use Rattle.dv_core.proofs.Bare.{bare}
use Rattle.dv_core.proofs.Ordered.{CollectionLaws, apart, empty_apart, loaded_apart, orderly, steps_apart}
use Rattle.dv_core.proofs.Unique.{UniqueLaws}
use Rattle.dv_core.proofs.laws.states_stay_orderly.Goals as goal

pub returns : goal.returns
returns c =
    let laws : CollectionLaws = record {
      inserted_ascend = c.inserted_documents_ascend.ensures;
      inserted_ids = c.inserted_documents_begin_with_ids.ensures;
      removed_ascend = c.removed_documents_ascend.ensures;
      removed_ids = c.removed_documents_begin_with_ids.ensures;
      replaced_ascend = c.replaced_documents_ascend.ensures;
      id_stays = c.the_id_stays.ensures;
      fits = c.what_comes_out_fits.ensures;
      replaced_ids = c.replaced_documents_begin_with_ids.ensures;
    } in
    let unique : UniqueLaws = record {
      inserted_apart = c.an_insert_without_a_clash_breaks_nothing.ensures;
      replaced_apart = c.a_replacement_without_a_clash_breaks_nothing.ensures;
      removed_apart = c.a_removal_breaks_nothing.ensures;
      none_apart = c.nothing_is_broken_by_no_document.ensures;
      fewer_apart = c.fewer_indexes_break_no_more.ensures;
      one_by_one = c.indexes_break_one_by_one.ensures;
    } in
    record {
      before = orderly empty_store_state empty_apart;
      after = λ old new session command outcome keeps steps. orderly new (steps_apart laws unique old (standing old.marks new) session command outcome (apart old keeps) (bare old new session command outcome steps));
      loaded = λ old new text d keeps is. orderly new (loaded_apart laws unique old (standing old.marks new) text d (apart old keeps) is.so);
      ended = λ session state keeps. record { ordered = keeps.ordered; fits = keeps.fits; unique = keeps.unique };
    }
