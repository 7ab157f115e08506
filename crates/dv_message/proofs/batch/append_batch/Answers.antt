use Rattle.std.proofs.Common.{ap, ◌∙◌, length, arith}
use Rattle.dv_message.specs.Inner.Batches.{batch_spelling}
use Rattle.dv_message.proofs.Measured.{put_in, unmeasured-length}
use Rattle.dv_message.proofs.batch.append_batch.Goals as goal

pub put_length-requires-clause-fits : goal.put_length-requires-clause-fits
put_length-requires-clause-fits c =
    omega (
      arith,
      unmeasured-length c.args.out.now.items c.append_unmeasured-appended.new.out.items (batch_spelling c.args.name.now c.args.namespace.now c.args.id c.args.rows.now) c.args.request_id (rw c.reserve.ensures.items at c.in-Ok.ensures.ok),
      c.in-Ok.ensures.within,
      c.len-start.ensures,
      ap length c.deref_mut.ensures.value,
      c.args.out.now.ok.0,
    )

pub returns-in-Ok-clause-ok : goal.returns-in-Ok-clause-ok
unfolding batch_spelling
returns-in-Ok-clause-ok c =
    rw c.in-Ok.is
    (put_in c.args.out.now.items (batch_spelling c.args.name.now c.args.namespace.now c.args.id c.args.rows.now) c.append_unmeasured-appended.new.out.items c.put_length.new.out c.args.request_id c.len-start.result c.append_unmeasured-appended.new.out.len
    (rw c.reserve.ensures.items at c.in-Ok.ensures.ok) (c.len-start.ensures ∙ c.args.out.now.ok.0) c.append_unmeasured-appended.new.out.ok.0
    (rw (← c.deref_mut.ensures.value) c.put_length.ensures) (c.put_length.auto.out ∙ ap length c.deref_mut.ensures.value))
