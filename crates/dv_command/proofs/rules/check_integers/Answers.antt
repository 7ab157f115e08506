use Rattle.std.proofs.Common.{sym, ◌∙◌}
use Rattle.dv_command.proofs.Among.{integers_all, integers_not_all}
use Rattle.dv_command.proofs.rules.check_integers.Goals as goal

pub returns-then-are_integers : goal.returns-then-are_integers
returns-then-are_integers c =
    rw (c.in_ok-array_of.ensures, ← c.as_slice.ensures) (sym (integers_all c.as_slice.result.now (sym c.are_integers.ensures ∙ c.if-are_integers.true)))

pub returns-else-are_integers : goal.returns-else-are_integers
returns-else-are_integers c =
    rw (c.in_ok-array_of.ensures, ← c.as_slice.ensures) (sym (integers_not_all c.as_slice.result.now (sym c.are_integers.ensures ∙ c.if-are_integers.false)))
