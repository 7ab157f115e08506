-- The test of each pair is the one of the definition.
use Rattle.std.proofs.Common.{rules}
use Rattle.std.proofs.lemmas.Iterator.{YieldsList-from_zip}
use Rattle.std.proofs.lemmas.Iterator.Consumers.{YieldsList-from_first}
use Rattle.std.proofs.lemmas.Iterator.Search.{all_from_yields_List}
use Rattle.dv_value.specs.Tree.{Field}
use Rattle.dv_value.specs.View.{tree}
use Rattle.dv_row.specs.Inner.Crossings.{field_but}
use Rattle.dv_row.proofs.way.same_fields_but.Goals as goal

pub returns : goal.returns
returns c =
    all_from_yields_List (λ (p : Field × Field). field_but c.args.name.now p.0 p.1) _ _ _ c.all.ensures.ran (YieldsList-from_zip
    (YieldsList-from_first (λ field. (field.0.now, tree field.1.now)) (λ i. i) c.args.document.now (cc))
    (YieldsList-from_first (λ field. (field.0.now, tree field.1.now)) (λ i. i) c.args.other.now (cc))) (λ x b q k. search (rules, k))
