use Rattle.dv_host.proofs.hosting.serve_ready.Goals as goal

pub ready-preserved : goal.ready-preserved
ready-preserved g c = λ first start count stands. c.serve_one.ensures first start count (c.ready.invariant first start count stands)
