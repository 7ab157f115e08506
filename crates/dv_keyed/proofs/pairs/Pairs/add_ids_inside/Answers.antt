use Rattle.std.proofs.Common.{Bor, ◌≡◌, ◌∙◌, false, map, sym, true}
use Rattle.dv_keyed.specs.Inner.Interval.{is_between}
use Rattle.std.proofs.lemmas.Result.{on_ok_weaker}
use Rattle.dv_order.specs.Key.{KeyTree}
use Rattle.dv_keyed.specs.Inner.Keys.{has_key}
use Rattle.dv_keyed.proofs.Ranges.{found-between, found-within}
use Rattle.dv_keyed.proofs.pairs.Pairs.add_ids_inside.Goals as goal

pub returns-then-not-is_forward-clause-all : goal.returns-then-not-is_forward-clause-all
returns-then-not-is_forward-clause-all c = λ k i between there. let wrong : true ≡ false = sym between ∙ c.is_forward.ensures.empty c.if-not-is_forward.true k in absurd cc

pub returns-clause-all : goal.returns-clause-all
returns-clause-all c = on_ok_weaker c.add_ids_between.result (λ known k i between there.
    known i ∙ found-within c.args.ends.low c.args.ends.high k i c.args.self.now (has_key i (map (λ (l : Bor KeyTree). l.now) c.args.ids.now.items)) between there) c.add_ids_between.ensures

pub returns-then-not-is_forward-clause-only : goal.returns-then-not-is_forward-clause-only
returns-then-not-is_forward-clause-only c = λ i none there. let wrong : true ≡ false = sym there ∙ none in absurd cc

pub returns-clause-only : goal.returns-clause-only
returns-clause-only c = on_ok_weaker c.add_ids_between.result (λ known i none there. found-between (is_between c.args.ends) i c.args.self.now (has_key i (map (λ (l : Bor KeyTree). l.now) c.args.ids.now.items)) none (sym (known i) ∙ there)) c.add_ids_between.ensures
