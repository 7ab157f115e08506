use Rattle.std.proofs.Common.{◌∙◌, rules, of_calls}
use Rattle.std.proofs.lemmas.Fn.{always_returns_same, dedup_same}
use Rattle.dv_match.proofs.Chosen.{stands_before, is_same_value, ranked, in-order}
use Rattle.dv_match.proofs.choices.Choices.of.Goals as goal

pub invariant_of-result : goal.invariant_of-result
invariant_of-result c =
    in-order c.args.values c.into_inner-ascending.result.items c.sort_by.new.self.items c.dedup_by.new.self.items (c.into_inner-ascending.ensures ∙ c.in_ok-try_clone.ensures) c.sort_by.ensures.permutation
    (c.in_ok-sort_by.ensures.sorted stands_before ranked (always_returns_same _ _ _ (λ a r f k. search (rules, of_calls))))
    (dedup_same _ is_same_value _ (λ x y b f' x' y' k. search (rules, of_calls)) _ _ c.dedup_by.ensures.filtered)
