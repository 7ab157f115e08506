use Rattle.std.proofs.Common.{subst, ◌∙◌}
use Rattle.dv_views.specs.Inner.Older.{views}
use Rattle.dv_views.specs.Inner.Readers.{listing_seen}
use Rattle.dv_views.specs.Inner.Turned.{HaveTaken, known_at}
use Rattle.dv_views.specs.Inner.Views.{Views}
use Rattle.dv_views.proofs.Walked.{sound_behind}
use Rattle.dv_views.proofs.Heights.{forms_of}
use Rattle.dv_views.proofs.ReadBy.{readers_under}
use Rattle.dv_views.proofs.told_registry.ToldRegistry.take.Goals as goal

pub take_each-requires-clause-places : goal.take_each-requires-clause-places
take_each-requires-clause-places c =
    c.under-places.ensures ∙ readers_under (forms_of c.self.inside.views.entries) (listing_seen c.self.inside.readers.lists.entries) c.args.namespace.now c.self.invariant.readers

pub invariant_of-self : goal.invariant_of-self
invariant_of-self c = sound_behind c.args.namespace.now c.args.all.now c.self.inside.views.entries c.take_each.new.views.entries (listing_seen c.self.inside.readers.lists.entries) c.self.invariant c.take_each.ensures

pub returns-clause-taken : goal.returns-clause-taken
returns-clause-taken c =
    subst (λ (vs : Views). HaveTaken (known_at c.args.namespace.now c.args.all.now) vs (views c.take_each.new.views.entries)) c.self.view_is c.take_each.ensures.taken

pub returns-clause-sound : goal.returns-clause-sound
returns-clause-sound c = (sound_behind c.args.namespace.now c.args.all.now c.self.inside.views.entries c.take_each.new.views.entries (listing_seen c.self.inside.readers.lists.entries) c.self.invariant c.take_each.ensures).views
