-- The rows of both, except those that both have.
use Rattle.std.proofs.Common.{◌∙◌, ap, ap₂}
use Rattle.dv_change.specs.Changes.{in_row_order}
use Rattle.dv_change.specs.Inner.Told.{diff_told}
use Rattle.dv_flow.specs.Inner.Unwinding.{rows_unmarked}
use Rattle.dv_flow.proofs.Apart.{told-unmarked}
use Rattle.dv_flow.proofs.unwind.UnwindByRow.rows_apart.Goals as goal

pub returns : goal.returns
returns c =
    let pos = c.args.pos.now in
    let marked = c.in_ok-common.common.items in
    let old = c.in_ok-old.old in
    let new = c.in_ok-new.new in
    ap₂ diff_told
    (c.in_ok-place_rows.ensures ∙ ap (λ marks. in_row_order (rows_unmarked marks 0 pos old)) c.deref.ensures.value)
    (c.in_ok-place_rows-2.ensures ∙ ap (λ marks. in_row_order (rows_unmarked marks 0 pos new)) c.deref-2.ensures.value)
    ∙ told-unmarked marked pos c.args.self.now c.args.old.now c.args.new.now old new c.law_exact.ensures c.in_ok-old.ensures c.in_ok-new.ensures c.in_ok-common.ensures
