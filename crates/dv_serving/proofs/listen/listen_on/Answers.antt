use Rattle.dv_serving.proofs.listen.listen_on.Goals as goal

pub returns : goal.returns
returns g c =
    let (count, all, served, low) = c.host.ensures in
    let (said, plays, same) = c.steps_are_a_schedule.ensures c.args.hub.now c.host.new.sessions served.steps served.played in
    (count, all, served, said, plays, same)
