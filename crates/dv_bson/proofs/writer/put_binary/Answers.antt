use Rattle.std.proofs.Common.{◌≡◌, length, ap, ◌∙◌, arith}
use Rattle.dv_value.specs.Inner.Spelled.{length-tagged}
use Rattle.dv_bson.proofs.Numbers.{wide32}
use Rattle.dv_bson.proofs.Written.{tagged_put, length-put}
use Rattle.dv_bson.proofs.writer.put_binary.Goals as goal

pub overflow_cast-count : goal.overflow_cast-count
overflow_cast-count c = omega (arith, c.requires.short, length-tagged c.args.subtype c.args.bytes.now)

pub put-at-requires : goal.put-at-requires
put-at-requires c =
    let four : length c.to_le_bytes.result ≡ 4 = ap length c.to_le_bytes.ensures ∙ wide32.len (length c.args.bytes.now) in
    omega (arith, four, c.requires.within, length-tagged c.args.subtype c.args.bytes.now)

pub put-at-requires-2 : goal.put-at-requires-2
put-at-requires-2 c =
    let four : length c.to_le_bytes.result ≡ 4 = ap length c.to_le_bytes.ensures ∙ wide32.len (length c.args.bytes.now) in
    omega (arith, four, c.put-at.ensures.ends, length-put _ _ _ _ _ c.put-at.ensures, c.requires.within, length-tagged c.args.subtype c.args.bytes.now)

pub put-requires : goal.put-requires
put-requires c =
    let four : length c.to_le_bytes.result ≡ 4 = ap length c.to_le_bytes.ensures ∙ wide32.len (length c.args.bytes.now) in
    omega (arith, four, c.put-at.ensures.ends, length-put _ _ _ _ _ c.put-at.ensures, c.put-at-2.ensures.ends, length-put _ _ _ _ _ c.put-at-2.ensures, c.requires.within, length-tagged c.args.subtype c.args.bytes.now)

pub returns : goal.returns
returns c = tagged_put _ _ _ _ _ _ _ _ _ _ _ c.to_le_bytes.ensures c.put-at.ensures c.put-at-2.ensures c.put.ensures
