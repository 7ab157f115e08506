use Rattle.dv_bson.proofs.Fields.{digit_shown}
use Rattle.dv_bson.proofs.reading.behind_digit.Goals as goal

pub returns-then-zero-eq0 : goal.returns-then-zero-eq0
returns-then-zero-eq0 c = digit_shown c.args.place c.args.bytes.now c.if-place-lt10.true c.in-len2-up.len_at_least c.if-digit-place.true c.if-zero-eq0.true
