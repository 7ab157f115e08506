-- Copies as ghost values, and views with what is kept for them, one to one.
use Rattle.std.specs.Prelude.{refl}
use Rattle.std.specs.Coded.{Coded, code_by, coded_list, coded×}
use Rattle.dv_views.specs.Inner.Code.{coded_name, coded_positioned, coded_views}
use Rattle.dv_views.specs.Inner.Copies.{KeptViews, NamedCopies}
use Rattle.dv_views.specs.Inner.Views.{Views}

abbrev pub coded_copies : Coded NamedCopies
coded_copies = coded_list (coded× coded_name coded_positioned)

abbrev pub coded_kept_views : Coded KeptViews
coded_kept_views = code_by (Views × NamedCopies) (coded× coded_views coded_copies) (λ k. (k.views, k.copies)) (λ p. record { views = p.0; copies = p.1 }) (λ _. refl)
