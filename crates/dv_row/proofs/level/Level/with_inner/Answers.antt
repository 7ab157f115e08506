use Rattle.std.proofs.Common.{◌∙◌, ◌+◌, ap, sym, drop, arith}
use Rattle.dv_row.specs.Inner.Turns.{left_behind, with_entered}
use Rattle.dv_row.proofs.Turning.{around-past}
use Rattle.dv_row.proofs.level.Level.with_inner.Goals as goal
use Rattle.dv_row.proofs.level.Level.with_inner.Goals.{then-place-len+in_ok-push_field, else-place-len}

pub returns-clause-left : goal.returns-clause-left
returns-clause-left c =
    let ways = c.args.self.ways in
    let d = c.args.self.document.now in
    let place = c.args.self.place in
    let inner = c.args.inner in
    elim c.if-place-len.branch [
      | then-place-len+in_ok-push_field w ↦ λ keeps.
          ap (λ n. left_behind keeps ways (drop n d) c.if-place-len.left) w.place-is
          ∙ ap (left_behind keeps ways (drop (place + 1) d)) (w.left-is ∙ w.in_ok-push_field.ensures.ok ∙ ap (λ o. with_entered o inner c.args.self.left) (sym w.field.ensures))
      | else-place-len w ↦ λ keeps.
          ap (λ n. left_behind keeps ways (drop n d) c.if-place-len.left) w.place-is ∙ ap (left_behind keeps ways (drop place d)) w.left-is
          ∙ around-past keeps ways d place c.args.self.left inner (omega (arith, c.len.ensures.len, w.if-place-len.false))
    ]
