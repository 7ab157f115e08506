use Rattle.dv_catalog.proofs.Order.{change_ordered}
use Rattle.dv_catalog.proofs.laws.changes_keep_the_order.Goals as goal

pub returns : goal.returns
returns c = change_ordered (record {
  inserted_ascend = c.inserted_documents_ascend.ensures;
  inserted_ids = c.inserted_documents_begin_with_ids.ensures;
  removed_ascend = c.removed_documents_ascend.ensures;
  removed_ids = c.removed_documents_begin_with_ids.ensures;
  replaced_ascend = c.replaced_documents_ascend.ensures;
  replaced_ids = c.replaced_documents_begin_with_ids.ensures;
})
