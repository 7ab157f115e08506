use Rattle.std.proofs.Common.{List, ℕ, ◌++◌, ap, ◌∙◌, arith}
use Rattle.dv_value.specs.Spelling.{spelling}
use Rattle.dv_message.proofs.Measured.{behind_header}
use Rattle.dv_message.proofs.reply.append_unmeasured.Goals as goal

pub returns-in-Ok-clause-ok : goal.returns-in-Ok-clause-ok
returns-in-Ok-clause-ok c =
    c.in-Ok.ensures.ok ∙ ap (λ (x : List ℕ). x ++ spelling c.args.reply.now) c.in_ok-extend_from_slice.ensures.items
    ∙ behind_header c.args.out.now.items c.header.result (spelling c.args.reply.now) c.args.request_id c.header.ensures

pub returns-in-Ok-clause-within : goal.returns-in-Ok-clause-within
returns-in-Ok-clause-within c = omega (arith, c.in-Ok.ensures.spelled.within)
