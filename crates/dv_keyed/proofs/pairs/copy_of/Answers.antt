use Rattle.dv_keyed.proofs.Copied.{entry_copied}
use Rattle.dv_keyed.proofs.pairs.copy_of.Goals as goal

pub entries-preserved : goal.entries-preserved
entries-preserved c =
    entry_copied c.entries.copy.entries c.entries.key-iterator c.next.new.self c.args.entries.now.entries c.insert-in-entries.new.self.entries
    c.in-Some.key.now c.in_ok-try_clone.field-0 c.in-Some.ids.now c.in_ok-try_clone-2.field-0
    c.in-Some.ensures.steps c.in_ok-try_clone.ensures c.in_ok-try_clone-2.ensures c.in_ok-insert.ensures.entries c.entries.invariant
