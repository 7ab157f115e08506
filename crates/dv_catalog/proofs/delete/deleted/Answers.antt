use Rattle.std.proofs.Common.{◌≡◌, length, map, ◌∙◌, sym, arith}
use Rattle.std.proofs.lemmas.Grind.{common_steps}
use Rattle.std.proofs.lemmas.List.{length-map}
use Rattle.dv_command.specs.Inner.View.{deletion_seen}
use Rattle.dv_pipe.specs.Sources.{rows_referred}
use Rattle.dv_catalog.specs.Changes.{gone}
use Rattle.dv_catalog.specs.Inner.EffectLaws.{done_unbroken}
use Rattle.dv_catalog.specs.Effects.{delete_chosen}
use Rattle.dv_catalog.proofs.Breaking.{gone_breaks_nothing}
use Rattle.dv_catalog.proofs.Deleted.{deletes, deletes_placed, deletes_identified}
use Rattle.dv_catalog.proofs.Keys.{before_ascending}
use Rattle.dv_catalog.proofs.delete.deleted.Goals as goal

pub keys_of-requires : goal.keys_of-requires
keys_of-requires c =
    rw c.deref.ensures.value (deletes_identified (deletion_seen c.args.deletion.now) c.args.collection.now.documents (rows_referred c.in_ok-documents.documents.items) c.in_ok-documents.ensures c.law_ascending.ensures.identified)

pub returns-clause-effect : goal.returns-clause-effect
returns-clause-effect c =
    let keyed = rw c.deref.ensures.value at c.in_ok-keys.ensures in
    let many : c.len.result ≡ length c.in_ok-documents.documents.items = grind (arith, common_steps, c.len.ensures) in
    let old = c.args.collection.now in
    let keys = c.in_ok-keys.keys.items in
    let asked = deletion_seen c.args.deletion.now in
    let does = deletes asked old.documents (rows_referred c.in_ok-documents.documents.items) c.in_ok-documents.ensures keys keyed c.len.result (many ∙ sym (length-map c.in_ok-documents.documents.items (λ r. r.now))) in
    done_unbroken old (delete_chosen asked) (record { matched = c.len.result; changes = map gone keys }) does (gone_breaks_nothing old.indexes keys old.documents)

pub returns-clause-placed : goal.returns-clause-placed
returns-clause-placed c =
    let keyed = rw c.deref.ensures.value at c.in_ok-keys.ensures in
    deletes_placed (deletion_seen c.args.deletion.now) c.args.collection.now.documents (rows_referred c.in_ok-documents.documents.items) c.in_ok-documents.ensures c.in_ok-keys.keys.items keyed c.removed_document_is_not_found.ensures
    (before_ascending c.args.collection.now.documents c.law_ascending.ensures.ascending)
