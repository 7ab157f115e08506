use Rattle.std.proofs.Common.{sym, ◌∙◌}
use Rattle.std.proofs.lemmas.Bool.{eqb-true}
use Rattle.dv_message.proofs.Together.{body_shown}
use Rattle.dv_message.proofs.sections.body_alone.Goals as goal

pub returns-then-is_empty : goal.returns-then-is_empty
returns-then-is_empty c =
    body_shown c.args.bytes.now c.in_ok-body.body.now c.in_ok-body.following.now c.in-len1-up.len_at_least c.if-kind-ne0.false (sym c.in_ok-body.ensures) (eqb-true _ 0 (sym c.is_empty.ensures ∙ c.if-is_empty.true))
