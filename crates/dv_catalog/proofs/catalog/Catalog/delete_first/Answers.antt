use Rattle.std.proofs.Common.{◌≡◌, map, ap, subst}
use Rattle.dv_command.specs.Inner.View.{deletion_seen}
use Rattle.dv_catalog.specs.Changes.{changes_of, done_to, gone}
use Rattle.dv_catalog.specs.Inner.EffectView.{AreFirst}
use Rattle.dv_catalog.specs.Effects.{delete_chosen}
use Rattle.dv_catalog.specs.State.{Collection, collection_at, collection_of}
use Rattle.dv_catalog.proofs.Cutting.{cuts_first, cuts_nothing}
use Rattle.dv_catalog.proofs.catalog.Catalog.delete_first.Goals as goal

pub returns : goal.returns
returns c =
    let name = c.args.namespace.now in
    let old = c.args.self.now in
    let statement = delete_chosen (deletion_seen c.args.deletion.now) in
    let there : c.in-Some.collection.now ≡ collection_of name old.state.namespaces = rw (← c.self.view_is) (ap collection_at c.in-Some.ensures) in
    let changes = map gone c.in-Ok.keys.items in
    let first : AreFirst changes (changes_of (done_to (collection_of name old.state.namespaces) statement)) = subst (λ (it : Collection). AreFirst changes (changes_of (done_to it statement))) there c.in-Ok.ensures.first in
    cuts_first name statement old changes c.in-Ok-make.done c.make.new.self first c.in-Ok-make.ensures.count c.in-Ok-make.ensures.made c.in-Ok-make.ensures.views c.in-Ok-make.ensures.marks

pub returns-in_default : goal.returns-in_default
returns-in_default c = cuts_nothing c.args.namespace.now (delete_chosen (deletion_seen c.args.deletion.now)) c.args.self.now

pub returns-in_default-first_keys : goal.returns-in_default-first_keys
returns-in_default-first_keys c = cuts_nothing c.args.namespace.now (delete_chosen (deletion_seen c.args.deletion.now)) c.args.self.now

pub returns-in_default-make : goal.returns-in_default-make
returns-in_default-make c = rw c.in_default-make.ensures.kept (cuts_nothing c.args.namespace.now (delete_chosen (deletion_seen c.args.deletion.now)) c.args.self.now)
