-- For no rows, each operator's result has no rows.
use Rattle.dv_change.proofs.Linking.{fresh-linked}
use Rattle.dv_change.proofs.chain.Chain.new.Goals as goal

pub returns-clause-linked : goal.returns-clause-linked
returns-clause-linked g c = fresh-linked g.T.Turn.turning g.met.T.Turn.positioned g.met.T.Turn.ordered g.met.T.Turn.empty c.args.turns.items c.requires
