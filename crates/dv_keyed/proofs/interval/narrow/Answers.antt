use Rattle.dv_keyed.proofs.interval.narrow.Goals as goal

pub returns : goal.returns
returns c = λ k was covered. c.close_in.ensures k was (c.in_ok-low.ensures.holds k covered)
