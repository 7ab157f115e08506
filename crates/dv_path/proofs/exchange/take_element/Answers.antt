use Rattle.std.proofs.Common.{◌∙◌, ap, map}
use Rattle.dv_value.specs.View.{tree}
use Rattle.dv_path.specs.Placing.{with_element}
use Rattle.dv_path.proofs.Vectors.{map_set}
use Rattle.dv_path.proofs.exchange.take_element.Goals as goal

pub returns-clause-left : goal.returns-clause-left
returns-clause-left c = map_set c.args.values.now.items c.args.place c.replace.new.dest c.requires ∙ ap (λ v. with_element c.args.place (tree v) (map tree c.args.values.now.items)) c.replace.ensures.after
