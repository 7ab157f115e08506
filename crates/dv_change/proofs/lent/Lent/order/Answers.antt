use Rattle.std.proofs.Common.{ap, ◌∙◌, [], ◌∷◌}
use Rattle.dv_order.specs.LentKeys.{lent_key}
use Rattle.dv_change.specs.declared.position.Part.TheVariants.{Up}
use Rattle.dv_change.specs.Positions.{PosTree, pos_order}
use Rattle.dv_change.proofs.Alone.{alone_alone, alone_together}
use Rattle.dv_change.proofs.lent.Lent.order.Goals as goal

pub returns-in-Alone-Alone : goal.returns-in-Alone-Alone
returns-in-Alone-Alone c = c.compare.ensures ∙ alone_alone c.args.self.now c.args.other.now _ _ c.in-Alone-Alone.is-0 c.in-Alone-Alone.is-1

pub returns-in-Alone-Together : goal.returns-in-Alone-Together
returns-in-Alone-Together c =
    let own : PosTree = Up (lent_key c.in-Alone-Together.a) ∷ [] in
    c.reverse.ensures ∙ alone_together c.args.self.now c.args.other.now _ _ c.order_to.result c.in-Alone-Together.is-0 c.in-Alone-Together.is-1 (c.order_to.ensures ∙ ap (λ parts. pos_order parts own) c.as_slice.ensures)
