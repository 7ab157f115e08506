use Rattle.std.proofs.Common.{rules, tests}
use Rattle.std.proofs.lemmas.Iterator.Consumers.{YieldsList-from_first}
use Rattle.std.proofs.lemmas.Iterator.Search.{any_from_yields_List}
use Rattle.dv_value.specs.Tree.{Field}
use Rattle.dv_value.specs.View.{tree}
use Rattle.dv_command.specs.Inner.Rare.{is_rare}
use Rattle.dv_command.proofs.reads.has_rare.Goals as goal

pub returns : goal.returns
returns c = any_from_yields_List (λ (f : Field). is_rare f.0) _ _ _ c.any.ensures.ran (YieldsList-from_first (λ field. (field.0.now, tree field.1.now)) (λ i. i) c.args.body.now c.iter.ensures.fields) (λ x b q k. search (rules, tests))
