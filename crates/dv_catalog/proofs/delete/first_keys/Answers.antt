use Rattle.std.proofs.Common.{◌≡◌, ◌≤◌, ◌-◌, List, length, map, take, ap, sym, subst, ◌∙◌, arith}
use Rattle.std.proofs.lemmas.Grind.{common_steps}
use Rattle.std.proofs.lemmas.Result.{IfOk-weaker}
use Rattle.std.specs.List.{AllByRecursion}
use Rattle.dv_coll.specs.Collection.{HasId, id_key}
use Rattle.dv_command.specs.Inner.View.{deletion_seen}
use Rattle.dv_pipe.specs.Sources.{rows_referred}
use Rattle.dv_catalog.proofs.Deleted.{all_but_last, one_less, some_first, some_identified, some_placed}
use Rattle.dv_catalog.proofs.Keys.{before_ascending}
use Rattle.dv_catalog.proofs.delete.first_keys.Goals as goal

pub keys_of-requires : goal.keys_of-requires
keys_of-requires c =
    let items = c.in_ok-documents.documents.items in
    let found = rows_referred items in
    let many : length found - 1 ≤ length found = omega arith in
    let left : rows_referred c.pop.new.self.items ≡ take (length found - 1) found = all_but_last (λ r. r.now) items c.pop.new.self.items _ (grind (arith, common_steps)) c.pop.ensures.rest in
    rw c.deref.ensures.value
    (subst (AllByRecursion HasId) (sym left)
    (some_identified (deletion_seen c.args.deletion.now) c.args.collection.now c.requires c.saturating_add.result (length found - 1) found c.in_ok-documents.ensures many c.law_ascending.ensures.identified))

pub returns-clause-first : goal.returns-clause-first
returns-clause-first c =
    let items = c.in_ok-documents.documents.items in
    let found = rows_referred items in
    let many : length found - 1 ≤ length found = omega arith in
    let left : rows_referred c.pop.new.self.items ≡ take (length found - 1) found = all_but_last (λ r. r.now) items c.pop.new.self.items _ (grind (arith, common_steps)) c.pop.ensures.rest in
    IfOk-weaker c.keys_of.result _ _
    (λ keys keyed. some_first (deletion_seen c.args.deletion.now) c.args.collection.now c.requires c.saturating_add.result (length found - 1) found c.in_ok-documents.ensures many keys.items
    (keyed ∙ ap (map id_key) (left)) (one_less (length found)))
    (rw c.deref.ensures.value at c.keys_of.ensures)

pub returns-clause-placed : goal.returns-clause-placed
returns-clause-placed c =
    let items = c.in_ok-documents.documents.items in
    let found = rows_referred items in
    let many : length found - 1 ≤ length found = omega arith in
    let left : rows_referred c.pop.new.self.items ≡ take (length found - 1) found = all_but_last (λ r. r.now) items c.pop.new.self.items _ (grind (arith, common_steps)) c.pop.ensures.rest in
    IfOk-weaker c.keys_of.result _ _
    (λ keys keyed. some_placed (deletion_seen c.args.deletion.now) c.args.collection.now c.requires c.saturating_add.result (length found - 1) found c.in_ok-documents.ensures many keys.items
    (keyed ∙ ap (map id_key) (left)) c.removed_document_is_not_found.ensures (before_ascending c.args.collection.now.documents c.law_ascending.ensures.ascending))
    (rw c.deref.ensures.value at c.keys_of.ensures)
