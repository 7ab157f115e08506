use Rattle.std.proofs.Common.{◌++◌, OnOk, append_assoc, codes, rules, subst, sym}
use Rattle.std.specs.Fmt.{decimal}
use Rattle.std.specs.Io.KnownBytes.{Appends}
use Rattle.dv_serving.specs.Serve.{connection_line, ended_line}
use Rattle.dv_serving.proofs.serve.write_ending.Goals as goal

pub returns-in-Some-clause-told : goal.returns-in-Some-clause-told
returns-in-Some-clause-told g c =
    subst (λ told. OnOk c.write-in-Some.result (Appends (g.W.ByteOut.contents c.args.writer.now) (g.W.ByteOut.contents c.write-in-Some.new.self) (connection_line c.args.number told))) (sym c.in-Ok.is)
    (subst (λ closing. OnOk c.write-in-Some.result (Appends (g.W.ByteOut.contents c.args.writer.now) (g.W.ByteOut.contents c.write-in-Some.new.self) (ended_line c.args.number closing))) (sym c.in-Some.is)
    (subst (λ n. OnOk c.write-in-Some.result (Appends (g.W.ByteOut.contents c.args.writer.now) (g.W.ByteOut.contents c.write-in-Some.new.self) (codes "connection " ++ decimal c.args.number ++ codes " closed " ++ decimal n ++ codes "\n"))) c.number-fault.ensures
    (search (rules, append_assoc))))

pub returns-in-Err-clause-told : goal.returns-in-Err-clause-told
returns-in-Err-clause-told g c =
    subst (λ told. OnOk c.write-in-Err.result (Appends (g.W.ByteOut.contents c.args.writer.now) (g.W.ByteOut.contents c.write-in-Err.new.self) (connection_line c.args.number told))) (sym c.in-Err.is)
    (search rules)
