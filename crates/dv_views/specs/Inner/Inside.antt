-- What a view is in memory, and what it stands for.
use Rattle.std.specs.Prelude.{◌≡◌}
use Rattle.std.specs.Option.{option_map}
use Rattle.dv_views.specs.declared.view.View.TheInside.{Inside}
use Rattle.dv_views.specs.Inner.Body.{Body}
use Rattle.dv_views.specs.Inner.MarkView.{IsSoundMark, mark_seen}
use Rattle.dv_views.specs.Placed.{lookups_of}

abbrev pub body_seen : Inside → Body
body_seen v = record { source = v.source; stages = v.pipeline; height = v.height; mark = mark_seen v.mark; told = option_map (λ all. all.items) v.told }

-- its lists are those that its stages read by `$lookup`, and its mark is sound
pub record AreListsRead (v : Inside) : Type 0 where
  pub lookups : v.lookups.items ≡ lookups_of v.pipeline v.source
  pub mark : IsSoundMark v.mark
