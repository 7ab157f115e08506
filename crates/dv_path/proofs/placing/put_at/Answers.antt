use Rattle.std.proofs.Common.{◌∙◌, sym}
use Rattle.dv_value.specs.View.{tree}
use Rattle.dv_value.specs.Inner.ListLaws.{positive}
use Rattle.dv_path.specs.Placing.{put}
use Rattle.dv_path.proofs.Placed.{put-first}
use Rattle.dv_path.proofs.Refused.{not-refused}
use Rattle.dv_path.proofs.placing.put_at.Goals as goal

pub returns-clause-put : goal.returns-clause-put
returns-clause-put c =
    let names = c.components-components.result.now in
    let path = c.components-components.ensures.components in
    let is = put-first names c.args.document c.index-components-0.result (tree c.args.value) (positive names (λ none. c.components-components.ensures.some (sym path ∙ none))) c.index-components-0.is in
    rw (← path, ← is, ← c.behind.ensures) c.put_into_document.ensures

pub returns-clause-refused : goal.returns-clause-refused
returns-clause-refused c = λ fault is. absurd (not-refused (put c.args.document c.args.path.now (tree c.args.value)) fault (sym c.in_default.is ∙ c.refusal.ensures (tree c.args.value)) is)
