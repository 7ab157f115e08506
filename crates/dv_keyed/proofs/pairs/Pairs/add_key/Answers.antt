use Rattle.std.proofs.Common.{◌∙◌, ◌||◌, ◌&&◌, ap}
use Rattle.std.specs.Ordering.{is_eq}
use Rattle.dv_order.specs.Key.{key_order}
use Rattle.dv_keyed.specs.Inner.Pairs.{has_pair}
use Rattle.dv_keyed.proofs.Entries.{pair-new}
use Rattle.dv_keyed.proofs.pairs.Pairs.add_key.Goals as goal

pub returns-clause-ok : goal.returns-clause-ok
returns-clause-ok c = λ k i.
    pair-new c.self.inside.entries c.insert.new.self c.args.key.now k i c.self.invariant c.in_ok-insert.ensures.ordered c.in_ok-try_clone-2.field-0 c.in_ok-try_clone.field-0 c.args.id.now _ c.in_ok-try_clone-2.ensures c.in_ok-try_clone.ensures c.of-ids.ensures c.in_ok-insert.ensures.updates.0 (ap (has_pair c.args.key.now i) c.self.view_is ∙ c.requires i)
    ∙ ap (λ ps. has_pair k i ps || (is_eq (key_order k c.args.key.now) && is_eq (key_order i c.args.id.now))) c.self.view_is
