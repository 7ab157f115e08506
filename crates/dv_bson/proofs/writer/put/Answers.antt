use Rattle.std.proofs.Common.{◌+◌, length, refl}
use Rattle.dv_bson.proofs.Written.{put_there}
use Rattle.dv_bson.proofs.writer.put.Goals as goal

pub returns : goal.returns
returns c = record {
  within = c.requires;
  put = rw c.copy_from_slice.ensures.after (put_there c.args.at (c.args.at + length c.args.bytes.now) c.args.bytes.now c.args.out.now refl);
  ends = refl;
}
