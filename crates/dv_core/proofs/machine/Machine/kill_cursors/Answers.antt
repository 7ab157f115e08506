use Rattle.dv_core.proofs.machine.Machine.kill_cursors.Goals as goal

pub returns-clause-reply : goal.returns-clause-reply
returns-clause-reply c = rw (← c.self.view_is) c.kill_all.ensures
