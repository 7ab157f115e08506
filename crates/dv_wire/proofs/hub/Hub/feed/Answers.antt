use Rattle.std.proofs.Common.{refl}
use Rattle.std.specs.List.{concat}
use Rattle.dv_wire.proofs.Worlds.{fed_numbers}
use Rattle.dv_wire.proofs.hub.Hub.feed.Goals as goal

pub returns-clause-fed : goal.returns-clause-fed
returns-clause-fed c =
    let told = c.feed_counted.ensures in
    (_, told.1, (told.0, refl, told.3))

pub returns-clause-numbers : goal.returns-clause-numbers
returns-clause-numbers c =
    let told = c.feed_counted.ensures in
    fed_numbers c.args.self.now c.feed_counted.new.self c.args.session.number c.args.piece.now (concat told.0) c.feed_counted.result (told.0, refl, told.3)
