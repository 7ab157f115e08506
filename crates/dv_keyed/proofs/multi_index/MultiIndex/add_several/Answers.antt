use Rattle.std.proofs.Common.{Bor, ◌∙◌, ap, map, subst}
use Rattle.std.proofs.lemmas.Result.{on_ok_weaker}
use Rattle.dv_order.specs.Key.{KeyTree}
use Rattle.dv_keyed.specs.Inner.Keys.{has_key}
use Rattle.dv_keyed.specs.Inner.Pairs.{AreNoted}
use Rattle.dv_keyed.proofs.Noted.{found-anyway}
use Rattle.dv_keyed.proofs.multi_index.MultiIndex.add_several.Goals as goal

pub returns : goal.returns
returns c = on_ok_weaker c.add_to.result (λ known k i there only.
    ap (has_key i) known
    ∙ found-anyway c.self.inside.several (map (λ (l : Bor KeyTree). l.now) c.args.ids.now.items) c.args.self.now (subst (AreNoted c.self.inside.several) c.self.view_is c.self.invariant) k i there only) c.add_to.ensures
