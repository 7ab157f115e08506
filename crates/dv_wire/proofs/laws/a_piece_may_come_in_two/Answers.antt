use Rattle.dv_wire.proofs.Plays.{in_two, as_one}
use Rattle.dv_wire.proofs.laws.a_piece_may_come_in_two.Goals as goal

pub returns : goal.returns
returns c = λ old new cut same. (
  in_two c.splitting_goes_on.ensures cut.session cut.piece cut.more cut.after cut.told cut.behind old new cut.before cut.answers cut.bytes same,
  as_one c.splitting_goes_on.ensures cut.session cut.piece cut.more cut.after cut.told cut.behind old new cut.before cut.answers cut.bytes same,
)
