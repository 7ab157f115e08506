use Rattle.std.proofs.Common.{ap, ◌∙◌, length, arith}
use Rattle.dv_value.specs.Spelling.{spelling}
use Rattle.dv_message.proofs.Measured.{put_in, unmeasured-length}
use Rattle.dv_message.proofs.reply.append_reply.Goals as goal

pub put_length-requires-clause-fits : goal.put_length-requires-clause-fits
put_length-requires-clause-fits c =
    omega (
      arith,
      unmeasured-length c.args.out.now.items c.append_unmeasured-appended.new.out.items (spelling c.args.reply.now) c.args.request_id c.in-Ok.ensures.ok,
      c.in-Ok.ensures.within,
      c.len-start.ensures,
      ap length c.deref_mut.ensures.value,
      c.args.out.now.ok.0,
    )

pub returns-in-Ok-clause-ok : goal.returns-in-Ok-clause-ok
returns-in-Ok-clause-ok c =
    rw c.in-Ok.is
    (put_in c.args.out.now.items (spelling c.args.reply.now) c.append_unmeasured-appended.new.out.items c.put_length.new.out c.args.request_id c.len-start.result c.append_unmeasured-appended.new.out.len
    c.in-Ok.ensures.ok (c.len-start.ensures ∙ c.args.out.now.ok.0) c.append_unmeasured-appended.new.out.ok.0
    (rw (← c.deref_mut.ensures.value) c.put_length.ensures) (c.put_length.auto.out ∙ ap length c.deref_mut.ensures.value))
