use Rattle.std.proofs.Common.{OnOk, append_assoc, rules, subst, sym}
use Rattle.std.specs.Io.KnownBytes.{Appends}
use Rattle.dv_serving.specs.Listen.{fate_line}
use Rattle.dv_serving.proofs.listen.write_fate.Goals as goal

pub returns-in-Closed-clause-told : goal.returns-in-Closed-clause-told
returns-in-Closed-clause-told g c =
    subst (λ fate. OnOk c.write-in-Closed.result (Appends (g.W.ByteOut.contents c.args.writer.now) (g.W.ByteOut.contents c.write-in-Closed.new.self) (fate_line c.args.number fate))) (sym c.in-Closed.is)
    (search (rules, append_assoc))

pub returns-in-Full-clause-told : goal.returns-in-Full-clause-told
returns-in-Full-clause-told g c =
    subst (λ fate. OnOk c.write-in-Full.result (Appends (g.W.ByteOut.contents c.args.writer.now) (g.W.ByteOut.contents c.write-in-Full.new.self) (fate_line c.args.number fate))) (sym c.in-Full.is)
    (search rules)

pub returns-in-Failed-clause-told : goal.returns-in-Failed-clause-told
returns-in-Failed-clause-told g c =
    subst (λ fate. OnOk c.write-in-Failed.result (Appends (g.W.ByteOut.contents c.args.writer.now) (g.W.ByteOut.contents c.write-in-Failed.new.self) (fate_line c.args.number fate))) (sym c.in-Failed.is)
    (search rules)
