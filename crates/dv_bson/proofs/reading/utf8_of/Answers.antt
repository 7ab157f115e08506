use Rattle.std.proofs.Common.{refl}
use Rattle.std.proofs.lemmas.Str.{is_utf8-from_IsUtf8}
use Rattle.dv_bson.proofs.reading.utf8_of.Goals as goal
use Rattle.dv_bson.specs.Inner.CutLaws.{is_utf8-false}

pub returns-in-Ok : goal.returns-in-Ok
returns-in-Ok c = (c.in-Ok.ensures.cases.0, is_utf8-from_IsUtf8 _ c.in-Ok.ensures.cases.1)

pub returns-in-Err : goal.returns-in-Err
returns-in-Err c = (refl, is_utf8-false _ c.in-Err.ensures.cases.0)
