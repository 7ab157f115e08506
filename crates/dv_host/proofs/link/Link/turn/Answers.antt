use Rattle.dv_host.specs.Schedule.{HappensBy}
use Rattle.dv_host.proofs.Moving.{moves_filled, moves_given, moves_joined}
use Rattle.dv_host.proofs.link.Link.turn.Goals as goal

pub returns-then-ne-clause-moves : goal.returns-then-ne-clause-moves
returns-then-ne-clause-moves g c = moves_given (HappensBy g.S.Sessions.opens g.S.Sessions.feeds g.S.Sessions.ends) c.args.sessions.now _ _ c.settle-told.ensures.gives

pub returns-in-Err-clause-moves : goal.returns-in-Err-clause-moves
returns-in-Err-clause-moves g c =
    let Happens = HappensBy g.S.Sessions.opens g.S.Sessions.feeds g.S.Sessions.ends in
    let old = c.args.sessions.now in
    moves_joined Happens old old old _ _ _ (moves_given Happens old _ _ c.settle-told.ensures.gives) (moves_filled Happens old _ _ c.in-Err.ensures.fills)

pub returns-in-Ok-clause-moves : goal.returns-in-Ok-clause-moves
returns-in-Ok-clause-moves g c =
    let Happens = HappensBy g.S.Sessions.opens g.S.Sessions.feeds g.S.Sessions.ends in
    let old = c.args.sessions.now in
    let new = c.hear.new.sessions in
    let given = moves_given Happens old _ _ c.settle-told.ensures.gives in
    let filled = moves_filled Happens old _ _ c.in-Ok.ensures.fills in
    let behind = moves_joined Happens old new new _ _ _ c.hear.ensures.moves (moves_given Happens new _ _ c.settle.ensures.gives) in
    moves_joined Happens old old new _ _ _ given (moves_joined Happens old old new _ _ _ filled behind)
