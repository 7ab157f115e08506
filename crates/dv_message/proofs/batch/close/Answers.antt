use Rattle.std.proofs.Common.{◌+◌, ◌≤◌, ap, ◌∙◌, length, arith}
use Rattle.dv_message.proofs.Batches.{closing}
use Rattle.dv_message.proofs.batch.close.Goals as goal

pub returns-clause-ok : goal.returns-clause-ok
returns-clause-ok c =
    let room : c.args.start + 4 ≤ length c.args.out.now.items = omega (arith, c.args.out.now.ok.0) in
    closing c.args.out.now.items c.extend_from_slice.new.self.items c.put_length.new.out c.args.start c.extend_from_slice.new.self.len room c.in_ok-extend_from_slice.ensures.items c.extend_from_slice.new.self.ok.0
    (rw (← c.deref_mut.ensures.value) c.put_length.ensures) (c.put_length.auto.out ∙ ap length c.deref_mut.ensures.value)
