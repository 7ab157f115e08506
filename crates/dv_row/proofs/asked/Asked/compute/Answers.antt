use Rattle.std.proofs.Common.{◌∙◌, sym}
use Rattle.dv_value.specs.View.{tree}
use Rattle.dv_row.specs.Inner.AskedView.{asked}
use Rattle.dv_row.specs.ExpressionView.{expression_seen}
use Rattle.dv_row.proofs.Taken.{computed-taken}
use Rattle.dv_row.proofs.asked.Asked.compute.Goals as goal

pub returns : goal.returns
returns c =
    computed-taken c.args.name.now c.args.path (tree c.args.value.now) (asked c.args.self.now) (expression_seen c.in_ok-expr.expr) c.requires (sym c.has_dot.ensures ∙ c.if-has_dot.false) c.in_ok-expr.ensures (sym c.excludes.ensures ∙ c.if-excludes.false)
    (asked c.add_computed.new.self) c.in_ok-add_computed.ensures.ok
