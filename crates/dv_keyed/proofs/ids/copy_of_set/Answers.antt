use Rattle.dv_keyed.proofs.Copied.{key_copied}
use Rattle.dv_keyed.proofs.ids.copy_of_set.Goals as goal

pub ids-preserved : goal.ids-preserved
ids-preserved c =
    key_copied c.ids.copy.keys c.ids.id-iterator c.next.new.self c.args.ids.now.keys c.insert.new.self.keys c.in-Some.id.now c.in_ok-try_clone.field-0
    c.in-Some.ensures.steps c.in_ok-try_clone.ensures c.in_ok-insert.ensures.keys c.ids.invariant
