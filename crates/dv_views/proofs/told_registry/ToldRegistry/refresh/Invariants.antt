-- The views so far are recomputed if that is requested.
use Rattle.std.proofs.Common.{◌≡◌, length, take, true, false}
use Rattle.std.specs.List.{AllByRecursion}
use Rattle.dv_pipe.specs.Sources.{lists_of}
use Rattle.dv_pipe.specs.Stages.{Lists}
use Rattle.dv_views.specs.Forms.{is_name_among}
use Rattle.dv_views.specs.Inner.Made.{AreAlike}
use Rattle.dv_views.specs.Inner.Views.{ArePartlyRefreshed, AreRight, is_stale}
use Rattle.dv_views.proofs.told_registry.ToldRegistry.refresh.Given as goal

abbrev pub invariant-views : goal.invariant-views
invariant-views l = record {
  partly : ArePartlyRefreshed l.names l.fn.self l.self;
  fresh : AllByRecursion (λ v. is_name_among v.name l.names ≡ true → is_stale v.mark ≡ false) (take l.place l.self);
  right : (lists : Lists) → AreAlike l.names (lists_of l.sources) lists → AreRight lists l.fn.self → AreRight lists l.self;
  count : length l.self ≡ l.place-end;
}
