use Rattle.std.proofs.Common.{◌∙◌}
use Rattle.dv_value.specs.View.{tree}
use Rattle.dv_match.proofs.Chosen.{looked-up}
use Rattle.dv_match.proofs.choices.Choices.contains.Goals as goal

pub returns : goal.returns
returns c = c.is_some.ensures ∙ looked-up (tree c.args.value.now) c.args.self.now c.ascending.result.now c.place_of.result c.ascending.ensures c.place_of.ensures
