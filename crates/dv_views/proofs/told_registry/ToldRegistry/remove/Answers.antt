use Rattle.std.proofs.Common.{◌≡◌, false, sym, subst, ap, is_some, ◌∙◌}
use Rattle.dv_views.specs.Inner.Older.{Entries, views}
use Rattle.dv_views.specs.Inner.Readers.{AreReaders, Listing, listing_seen, listing_without}
use Rattle.dv_views.specs.Inner.Views.{Views, reads_name}
use Rattle.dv_views.proofs.Before.{position_is}
use Rattle.dv_views.proofs.Entries.{named_apart, taken_out, there}
use Rattle.dv_views.proofs.Heights.{forms_of, read_forms}
use Rattle.dv_views.proofs.ReadBy.{readers_removed}
use Rattle.dv_views.proofs.Removing.{sound_without}
use Rattle.dv_views.proofs.told_registry.ToldRegistry.remove.Goals as goal

pub returns-in_default-clause-there : goal.returns-in_default-clause-there
returns-in_default-clause-there c = rw (← c.self.view_is) (ap is_some c.in_default.ensures.value ∙ sym (there c.args.name.now c.self.inside.views.entries))

pub returns-in_default-clause-views : goal.returns-in_default-clause-views
returns-in_default-clause-views c = rw (← c.self.view_is) (ap views c.shift_remove_full.ensures.entries ∙ sym (taken_out c.args.name.now c.self.inside.views.entries c.self.invariant.views.apart))

pub invariant_of-self-2 : goal.invariant_of-self-2
invariant_of-self-2 c =
    let es = c.self.inside.views.entries in
    let gone = c.args.name.now in
    let left = c.shift_remove_full.new.self.entries in
    let listing = listing_seen c.self.inside.readers.lists.entries in
    let away : reads_name (views es) gone ≡ false = subst (λ (vs : Views). reads_name vs gone ≡ false) (sym c.self.view_is) c.requires in
    let readers = readers_removed gone c.in-Some.place es listing (read_forms gone (views es) ∙ away) (sym (c.in-Some.ensures.index ∙ position_is gone es)) c.self.invariant.readers in
    sound_without gone es left listing (listing_seen c.take_out.new.self.lists.entries) c.shift_remove_full.ensures.entries (named_apart left c.shift_remove_full.ensures.unique) away c.self.invariant
    (subst (λ (ls : Listing). AreReaders (forms_of left) ls) (sym c.take_out.ensures)
    (subst (λ (fs : Entries _). AreReaders (forms_of fs) (listing_without c.in-Some.place listing)) (sym c.shift_remove_full.ensures.entries) readers))

pub returns-clause-there : goal.returns-clause-there
returns-clause-there c = rw (← c.self.view_is) (ap is_some c.in-Some.ensures.value ∙ sym (there c.args.name.now c.self.inside.views.entries))

pub returns-clause-views : goal.returns-clause-views
returns-clause-views c = rw (← c.self.view_is) (ap views c.shift_remove_full.ensures.entries ∙ sym (taken_out c.args.name.now c.self.inside.views.entries c.self.invariant.views.apart))
