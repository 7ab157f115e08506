use Rattle.dv_catalog.proofs.ToldChanges.{told_made}
use Rattle.dv_catalog.proofs.laws.told_changes_are_made.Goals as goal

pub returns : goal.returns
returns c = told_made (record {
  keeps = c.changes_keep_the_order.ensures;
  puts = c.a_put_is_the_collections.ensures;
  goes = c.a_gone_is_the_collections.ensures;
  nothing = c.no_change_changes_nothing.ensures;
  follow = c.changes_follow_on.ensures.documents;
})
