use Rattle.std.proofs.Common.{◌≡◌, not, rules, subst}
use Rattle.std.proofs.lemmas.Fn.{filter_same}
use Rattle.std.specs.Ordering.{is_eq}
use Rattle.dv_order.specs.Key.{KeyTree, key_order}
use Rattle.dv_keyed.proofs.ids.drop_equal.Goals as goal

pub returns : goal.returns
returns c = filter_same _ (λ other. not (is_eq (key_order c.args.id.now other))) _ (λ x b q h. (subst (λ (y : KeyTree). b ≡ not (is_eq (key_order c.args.id.now y))) h.shows (search (rules, h.called)), search (rules, h.called))) _ _ c.retain.ensures.filtered
