use Rattle.dv_host.proofs.hosting.finish_all.Goals as goal

pub links-preserved : goal.links-preserved
links-preserved g c = λ first start count stands. c.finish.ensures.stands first start count (c.links.invariant first start count stands)
