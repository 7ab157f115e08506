use Rattle.dv_value.proofs.Changed.{put_there, put_again, names-put}
use Rattle.dv_value.proofs.laws.what_is_put_under_a_name.Goals as goal

pub returns : goal.returns
returns c = record { there = put_there; again = put_again; names = names-put }
