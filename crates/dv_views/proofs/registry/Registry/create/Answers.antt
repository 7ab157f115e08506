use Rattle.std.proofs.Common.{subst, sym}
use Rattle.dv_views.specs.Inner.Copies.{AreCopies, KeptViews}
use Rattle.dv_views.specs.Inner.Made.{needed_for}
use Rattle.dv_views.specs.Inner.Views.{AreRight}
use Rattle.dv_views.proofs.Kept.{left_right}
use Rattle.dv_views.proofs.Refreshing.{none_refreshed}
use Rattle.dv_views.proofs.registry.Registry.create.Goals as goal

pub returns-in-Some-clause-err : goal.returns-in-Some-clause-err
returns-in-Some-clause-err c = none_refreshed (needed_for c.args.self.now.views c.args.pipeline c.args.source.now) c.args.self.now.views

pub returns-clause-right : goal.returns-clause-right
returns-clause-right c = λ lists alike right.
    let inside = c.self-2.inside in
    let views : AreRight lists inside.views = subst (λ (k : KeptViews). AreRight lists k.views) (sym c.self-2.view_is) (c.keep_and_create-created.ensures.right lists alike right.views) in
    let copies : AreCopies lists inside.copies = subst (λ (k : KeptViews). AreCopies lists k.copies) (sym c.self-2.view_is) (c.keep_and_create-created.ensures.copies lists alike right.copies) in
    left_right lists inside.views inside.copies c.keep_read.new.self c.keep_read.ensures views copies
