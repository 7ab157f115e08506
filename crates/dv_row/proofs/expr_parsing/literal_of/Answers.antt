use Rattle.std.proofs.Common.{◌∙◌, sym}
use Rattle.dv_row.proofs.Members.{literal-others, literal-one}
use Rattle.dv_row.proofs.expr_parsing.literal_of.Goals as goal

pub returns-then-len-ne1 : goal.returns-then-len-ne1
returns-then-len-ne1 c = literal-others c.args.document.now (λ one. c.if-len-ne1.true (c.len.ensures.len ∙ one))

pub returns : goal.returns
returns c = c.get.ensures ∙ literal-one c.args.document.now (sym c.len.ensures.len ∙ c.if-len-ne1.false)
