-- Views after changes of the documents under a namespace: each has counted its work, or is stale.
use Rattle.std.specs.Prelude.{◌≡◌, true, false, List, [], ◌∷◌, ⊤}
use Rattle.dv_change.specs.Raised.{raised}
use Rattle.dv_views.specs.Flow.{Share}
use Rattle.dv_views.specs.Views.{View}
use Rattle.dv_views.specs.Inner.Views.{Views, view_form, is_stale, mark_ticks}

-- a view that isn't stale after changes has counted its share of work and no more; a stale view stays stale, and a view that the
-- changes don't reach is unchanged
pub record HasCountedShare (share : Share) (before after : View) : Type 0 where
  pub form : view_form after ≡ view_form before
  pub unread : share.reached ≡ false → after ≡ before
  pub stale : is_stale before.mark ≡ true → is_stale after.mark ≡ true
  pub ticks : is_stale after.mark ≡ false → mark_ticks after.mark ≡ raised (mark_ticks before.mark) share.work

-- views, one by one
abbrev pub AreCounted : List Share → Views → Views → Type 0
AreCounted [] [] [] = ⊤
AreCounted (s ∷ shares) (v ∷ before) (w ∷ after) = HasCountedShare s v w × AreCounted shares before after
AreCounted shares before after = ⊥
