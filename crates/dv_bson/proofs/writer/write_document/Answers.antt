use Rattle.std.proofs.Common.{◌+◌, refl, arith}
use Rattle.dv_value.specs.Spelling.{spelling}
use Rattle.dv_bson.proofs.Written.{appended}
use Rattle.dv_bson.proofs.writer.write_document.Goals as goal

pub returns-clause-ok : goal.returns-clause-ok
returns-clause-ok c =
    let old = c.args.out.now in
    let start = c.len-start.result in
    appended start c.in-Some.size (start + c.in-Some.size) old.len c.resize.new.self.len c.put_document.result old.items (spelling c.args.document.now) c.as_mut_slice.result.now c.resize.new.self.items c.put_document.new.out
    (omega (arith, c.len-start.ensures, old.ok.0)) (omega (arith, old.ok.0)) refl c.in-Some.ensures.size.1 c.in_ok-resize.ensures.items c.as_mut_slice.ensures.value (omega (arith, c.resize.new.self.ok.0)) c.put_document.ensures
