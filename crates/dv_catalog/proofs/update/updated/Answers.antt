use Rattle.std.proofs.Common.{◌≡◌, ◌∙◌, Ok, ap, map, sym}
use Rattle.dv_command.specs.Inner.View.{updating_seen}
use Rattle.dv_pipe.specs.Sources.{rows_referred}
use Rattle.dv_update.specs.Outcome.{sole_name}
use Rattle.dv_catalog.specs.Effects.{changed_by}
use Rattle.dv_catalog.specs.Inner.EffectView.{after_of}
use Rattle.dv_catalog.proofs.Updated.{updates_placed, updates_stand}
use Rattle.dv_catalog.proofs.update.updated.Goals as goal

pub returns-clause-placed : goal.returns-clause-placed
returns-clause-placed c =
    let updating = updating_seen c.args.updating.now in
    let does : changed_by updating.update (rows_referred c.in_ok-documents.documents.items) ≡ Ok (map (after_of (sole_name updating.update)) c.in_ok-each.each.items) = rw c.deref.ensures.value at c.in_ok-each.ensures.afters in
    let told = does ∙ ap (λ n. Ok (map (after_of n) c.in_ok-each.each.items)) (sym c.in_ok-name.ensures.name) in
    updates_placed c.replaced_document_is_found.ensures c.the_id_stays.ensures updating c.args.collection.now.documents (rows_referred c.in_ok-documents.documents.items) (map (after_of c.in_ok-name.name) c.in_ok-each.each.items) c.in_ok-documents.ensures
    c.law_ascending.ensures.identified told

pub returns-clause-standing : goal.returns-clause-standing
returns-clause-standing c =
    let updating = updating_seen c.args.updating.now in
    let laws = c.documents_stand_where_they_are_found.ensures in
    let does : changed_by updating.update (rows_referred c.in_ok-documents.documents.items) ≡ Ok (map (after_of (sole_name updating.update)) c.in_ok-each.each.items) = rw c.deref.ensures.value at c.in_ok-each.ensures.afters in
    let told = does ∙ ap (λ n. Ok (map (after_of n) c.in_ok-each.each.items)) (sym c.in_ok-name.ensures.name) in
    updates_stand (record { all = laws.all; passing = laws.passing; first = laws.first }) c.the_id_stays.ensures updating c.args.collection.now.documents (rows_referred c.in_ok-documents.documents.items) c.in_ok-name.name c.in_ok-each.each.items c.in_ok-documents.ensures
    c.law_ascending.ensures.ascending c.law_ascending.ensures.identified told (rw c.deref.ensures.value at c.in_ok-each.ensures.befores) c.in_ok-name.ensures.no_id c.in_ok-name.ensures.whole
