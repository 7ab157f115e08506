use Rattle.std.proofs.Common.{◌≡◌, sym, subst, length, rules}
use Rattle.std.specs.Prelude.{IfOk}
use Rattle.dv_pipe.specs.Inner.Parts.{ended}
use Rattle.dv_pipe.specs.Sources.{rows_referred}
use Rattle.dv_pipe.proofs.Steps.{no-steps}
use Rattle.dv_pipe.proofs.run.Run.rows.Goals as goal

pub returns-then-is_empty : goal.returns-then-is_empty
returns-then-is_empty c =
    let self = c.args.self.now in
    let none : length self.steps.items ≡ 0 = search (rules, c.if-is_empty.true, c.is_empty.ensures) in
    subst (λ ds. IfOk c.rows.result (λ rows. rows.items ≡ ended self.end ds)) (sym (no-steps self.steps.items (rows_referred c.args.documents.now) none)) c.rows.ensures
