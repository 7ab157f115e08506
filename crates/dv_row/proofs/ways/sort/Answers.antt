use Rattle.std.proofs.Common.{rules, of_calls}
use Rattle.std.proofs.lemmas.Fn.{always_returns_same}
use Rattle.dv_row.proofs.Ordered.{stands_before, ranked, ascending}
use Rattle.dv_row.proofs.ways.sort.Goals as goal

pub returns-clause-order : goal.returns-clause-order
returns-clause-order c =
    ascending c.sort_unstable_by.new.self.items (c.sort_unstable_by.ensures.sorted stands_before ranked (always_returns_same _ _ _ (λ a r f k. search (rules, of_calls))))
