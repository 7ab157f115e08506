use Rattle.std.proofs.Common.{◌∙◌, ap, sym}
use Rattle.dv_keyed.specs.Inner.Pairs.{has_pair}
use Rattle.dv_keyed.specs.Inner.Ids.{has_in}
use Rattle.dv_keyed.proofs.Entries.{pair-found}
use Rattle.dv_keyed.proofs.pairs.Pairs.has.Goals as goal

pub returns-in-Some : goal.returns-in-Some
returns-in-Some c =
    c.contains.ensures ∙ sym (ap (has_pair c.args.key.now c.args.id.now) (sym c.self.view_is) ∙ pair-found c.args.key.now c.args.id.now c.self.inside.entries.entries c.self.invariant ∙ ap (has_in c.args.id.now) (sym c.in-Some.ensures.value))

pub returns-in-None : goal.returns-in-None
returns-in-None c =
    sym (ap (has_pair c.args.key.now c.args.id.now) (sym c.self.view_is) ∙ pair-found c.args.key.now c.args.id.now c.self.inside.entries.entries c.self.invariant ∙ ap (has_in c.args.id.now) (sym c.in-None.ensures.value))
