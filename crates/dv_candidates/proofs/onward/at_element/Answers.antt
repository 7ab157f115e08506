use Rattle.std.proofs.Common.{refl}
use Rattle.dv_value.specs.View.{tree}
use Rattle.dv_candidates.specs.Path.{index_of}
use Rattle.dv_candidates.specs.Inner.Places.{picks}
use Rattle.dv_candidates.proofs.Items.{a_document, no_document}
use Rattle.dv_candidates.proofs.WalkedArrays.{picked-element, element-only-picked, both-within, both-element, element-both}
use Rattle.dv_candidates.proofs.Walks.{IsPart, behind-within}
use Rattle.dv_candidates.proofs.onward.at_element.Goals as goal

pub returns-in_default : goal.returns-in_default
returns-in_default c =
    let index = c.args.index in
    let v = tree c.args.element.now in
    let part : IsPart c.args.components.now c.args.places c.picking-picking.result (λ name. picks index (index_of name)) = record { is = c.picking-picking.ensures } in
    record {
      stand = rw c.behind.ensures (record {
        within = behind-within part;
        reaches = picked-element index v part;
        reached = element-only-picked index v part c.requires (no_document c.args.element.now c.in_default.not-Doc);
      });
      value = refl;
    }

pub returns-clause-stand : goal.returns-clause-stand
returns-clause-stand c =
    let index = c.args.index in
    let v = tree c.args.element.now in
    let before = c.requires in
    let both = c.in_ok-both.both in
    let joined = c.in_ok-both.ensures in
    let part : IsPart c.args.components.now c.args.places c.picking-picking.result (λ name. picks index (index_of name)) = record { is = c.picking-picking.ensures } in
    record {
      within = both-within part before both joined;
      reaches = both-element index v part before both joined (a_document c.args.element.now c.in-Doc.field-0 c.in-Doc.is);
      reached = element-both index v part before both joined;
    }
