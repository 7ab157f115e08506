use Rattle.std.proofs.Common.{arith}
use Rattle.dv_scripts.proofs.Replies.{first_length-le}
use Rattle.dv_scripts.proofs.output.first_reply.Goals as goal

pub split_at-requires : goal.split_at-requires
split_at-requires c = let inside = first_length-le c.args.replies.now in omega (arith, inside, c.first_length.ensures)
