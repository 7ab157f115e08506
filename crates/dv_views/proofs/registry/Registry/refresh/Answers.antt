use Rattle.std.proofs.Common.{subst, sym}
use Rattle.dv_views.specs.Inner.Copies.{AreCopies, KeptViews}
use Rattle.dv_views.specs.Inner.Views.{AreRight}
use Rattle.dv_views.proofs.Kept.{left_right}
use Rattle.dv_views.proofs.registry.Registry.refresh.Goals as goal

pub returns-clause-right : goal.returns-clause-right
returns-clause-right c = λ lists alike right.
    let views : AreRight lists c.self.inside.views = subst (λ (k : KeptViews). AreRight lists k.views) (sym c.self.view_is) (c.keep_and_refresh-refreshed.ensures.right lists alike right.views) in
    let copies : AreCopies lists c.self.inside.copies = subst (λ (k : KeptViews). AreCopies lists k.copies) (sym c.self.view_is) (c.keep_and_refresh-refreshed.ensures.copies lists alike right.copies) in
    left_right lists c.self.inside.views c.self.inside.copies c.keep_read.new.self c.keep_read.ensures views copies
