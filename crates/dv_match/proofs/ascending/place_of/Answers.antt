use Rattle.std.proofs.Common.{subst, sym, rules, of_calls}
use Rattle.std.proofs.lemmas.Fn.{always_returns_same}
use Rattle.dv_value.specs.View.{tree}
use Rattle.dv_order.specs.Order.{order}
use Rattle.dv_match.specs.Inner.Choices.{IsPlaceOf}
use Rattle.dv_match.proofs.Chosen.{placed}
use Rattle.dv_match.proofs.ascending.place_of.Goals as goal

pub returns : goal.returns
returns c =
    let v = tree c.args.value.now in
    let position = c.binary_search_by.ensures.position (λ member. order (tree member) v) (always_returns_same _ _ _ (λ a r f k. search (rules, of_calls))) in
    subst (IsPlaceOf v c.args.values.now) (sym c.ok.ensures.value) (placed c.args.values.now v c.requires c.binary_search_by.result c.binary_search_by.ensures.bound position)
