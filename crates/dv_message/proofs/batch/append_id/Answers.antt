use Rattle.std.proofs.lemmas.Result.{on_ok_weaker}
use Rattle.dv_message.proofs.Batches.{id_appended}
use Rattle.dv_message.proofs.batch.append_id.Goals as goal

pub returns-clause-ok : goal.returns-clause-ok
returns-clause-ok c =
    on_ok_weaker c.append_three.result (id_appended c.args.id c.args.namespace.now c.args.out.now.items c.append_three.new.out.items) (rw (c.as_bytes.ensures.value, c.id_front-front.ensures) at c.append_three.ensures.ok)
