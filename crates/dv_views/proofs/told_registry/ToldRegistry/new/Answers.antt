use Rattle.std.proofs.Common.{[], sym, subst, map}
use Rattle.dv_views.specs.Forms.{AreFounded, heights}
use Rattle.dv_views.specs.Inner.Older.{Entries, views}
use Rattle.dv_views.specs.Inner.Readers.{AreReaders, Listing}
use Rattle.dv_views.specs.Inner.Seen.{AreSilent, HaveHeights}
use Rattle.dv_views.specs.Inner.Views.{AreOverLive, view_form, no_distance}
use Rattle.dv_views.proofs.Entries.{named_apart}
use Rattle.dv_views.proofs.ReadBy.{none_listed}
use Rattle.dv_views.proofs.told_registry.ToldRegistry.new.Goals as goal

pub invariant_of-result : goal.invariant_of-result
invariant_of-result c = record {
  views = record {
    apart = named_apart c.new.result.entries c.new.ensures.unique;
    live = subst (λ (es : Entries _). AreOverLive no_distance (views es)) (sym c.new.ensures.empty) tt;
    founded = subst (λ (es : Entries _). AreFounded (map view_form (views es))) (sym c.new.ensures.empty) tt;
  };
  heights = subst (λ (es : Entries _). HaveHeights (heights (map view_form (views es))) es) (sym c.new.ensures.empty) tt;
  silent = subst (λ (es : Entries _). AreSilent es) (sym c.new.ensures.empty) tt;
  readers = subst (λ (listing : Listing). AreReaders (map view_form (views c.new.result.entries)) listing) (sym c.new-2.ensures) (subst (λ (es : Entries _). AreReaders (map view_form (views es)) []) (sym c.new.ensures.empty) none_listed);
}
