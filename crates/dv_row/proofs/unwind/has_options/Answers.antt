use Rattle.std.proofs.Common.{rules}
use Rattle.std.proofs.lemmas.Iterator.Consumers.{YieldsList-from_first}
use Rattle.std.proofs.lemmas.Iterator.Search.{all_from_yields_List}
use Rattle.dv_value.specs.View.{tree}
use Rattle.dv_row.specs.Parsing.{is_option}
use Rattle.dv_row.proofs.unwind.has_options.Goals as goal

pub returns : goal.returns
returns c =
    all_from_yields_List is_option _ _ _ c.all.ensures.ran (YieldsList-from_first (λ field. (field.0.now, tree field.1.now)) (λ i. i) _ c.iter.ensures.fields) (λ x b q k. search (rules, k))
