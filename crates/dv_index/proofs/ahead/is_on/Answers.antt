use Rattle.std.proofs.Common.{◌∙◌, sym}
use Rattle.dv_index.proofs.ahead.is_on.Goals as goal
use Rattle.dv_keyed.specs.Inner.ListLaws.{one-path}

pub returns : goal.returns
returns c = λ same.
    sym (c.components.ensures.components ∙ c.path.ensures) ∙ one-path c.components.result.now c.components-2.result.now (sym c.same_path.ensures ∙ same) ∙ c.components-2.ensures.components
