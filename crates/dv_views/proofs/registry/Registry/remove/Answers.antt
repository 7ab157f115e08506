use Rattle.std.proofs.Common.{◌≡◌, false, subst, sym}
use Rattle.dv_views.specs.Inner.Copies.{AreKeptRight, KeptViews}
use Rattle.dv_views.specs.Inner.Views.{AreRight, Views, reads_name}
use Rattle.dv_views.proofs.Kept.{left_right}
use Rattle.dv_views.proofs.registry.Registry.remove.Goals as goal

pub returns-clause-right : goal.returns-clause-right
returns-clause-right c = λ lists right.
    let views = c.self.inside.views in
    let away : reads_name views c.args.name.now ≡ false = subst (λ (k : KeptViews). reads_name k.views c.args.name.now ≡ false) (sym c.self.view_is) c.requires in
    let was : AreKeptRight lists (record { views = views; copies = c.self.inside.copies }) = subst (λ (k : KeptViews). AreKeptRight lists k) (sym c.self.view_is) right in
    let now : AreRight lists c.remove-there.new.self = subst (λ (vs : Views). AreRight lists vs) (sym c.remove-there.ensures.views) (c.a_removed_view_leaves_views_right.ensures c.args.name.now lists views away was.views) in
    left_right lists c.remove-there.new.self c.self.inside.copies c.keep_read.new.self c.keep_read.ensures now was.copies
