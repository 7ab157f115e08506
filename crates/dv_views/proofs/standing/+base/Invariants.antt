use Rattle.dv_views.proofs.standing.+base.Given as goal

abbrev pub decreases-base_at : goal.decreases-base_at
decreases-base_at l = l.place
