use Rattle.std.proofs.Common.{refl}
use Rattle.dv_update.proofs.StandingIn.{alike_itself}
use Rattle.dv_update.proofs.stand_in.others_stand_in.Goals as goal

pub edits-init : goal.edits-init
edits-init c = (c.args.document, refl, record { alike = alike_itself c.args.document; known = tt })
