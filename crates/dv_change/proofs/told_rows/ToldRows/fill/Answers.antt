-- The rows that come out are the result for the first rows.
use Rattle.std.proofs.Common.{◌∙◌, subst, sym}
use Rattle.dv_change.specs.Changes.{Positioned}
use Rattle.dv_change.specs.Inner.Changes.{IsPositioned}
use Rattle.dv_change.proofs.Made.{made_filled}
use Rattle.dv_change.proofs.told_rows.ToldRows.fill.Goals as goal

pub fill-requires : goal.fill-requires
fill-requires g c = c.requires.operators

pub put_each-requires : goal.put_each-requires
put_each-requires g c = c.requires.positioned

pub packed-requires : goal.packed-requires
packed-requires g c = c.in_ok-put_each.ensures.positioned

pub returns-clause-sound : goal.returns-clause-sound
returns-clause-sound g c = record {
  operators = c.in_ok-made.ensures.sound;
  positioned = subst (λ (rows : Positioned). IsPositioned rows) (sym c.in_ok-live.ensures) c.in_ok-put_each.ensures.positioned;
}

pub returns-clause-made : goal.returns-clause-made
returns-clause-made g c =
    let o = g.O.Operator in
    let laws = g.met.O.Operator in
    made_filled o.makes o.holds laws.positioned laws.ordered laws.empty c.args.all.items c.in_ok-made.made.items c.args.self.operators c.fill.new.self c.args.self.rows.entries _ c.in_ok-made.ensures.filled (c.in_ok-live.ensures ∙ c.in_ok-put_each.ensures.rows)
