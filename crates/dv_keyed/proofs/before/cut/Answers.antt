use Rattle.dv_keyed.proofs.before.cut.Goals as goal

pub returns : goal.returns
returns c = λ k was before. c.close_in.ensures k was (c.in_ok-low.ensures.holds k before)
