use Rattle.std.proofs.Common.{rules, subst}
use Rattle.dv_views.specs.Inner.Copies.{HaveCopiesRead, NamedCopies, copies_seen}
use Rattle.dv_views.proofs.Copied.{copies_read, positioned_read}
use Rattle.dv_views.proofs.copies.Copies.keep_read.Goals as goal

pub invariant_of-self : goal.invariant_of-self
invariant_of-self c =
    let before = c.self.inside.lists.entries in
    let after = c.retain.new.self.entries in
    positioned_read c.args.views.now (copies_seen before) (copies_seen after) (copies_read _ c.args.views.now _ (λ k v b w f' t. search rules) before after c.retain.ensures.filtered) c.self.invariant

pub returns : goal.returns
returns c =
    let before = c.self.inside.lists.entries in
    let after = c.retain.new.self.entries in
    subst (λ (old : NamedCopies). HaveCopiesRead c.args.views.now old (copies_seen after)) c.self.view_is (copies_read _ c.args.views.now _ (λ k v b w f' t. search rules) before after c.retain.ensures.filtered)
