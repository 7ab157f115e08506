-- Which new views only a limit can refuse.
use Rattle.std.specs.Prelude.{◌≡◌, false, List}
use Rattle.dv_pipe.specs.Stages.{is_read}
use Rattle.dv_views.specs.Forms.{ViewForm}
use Rattle.dv_catalog.specs.State.{is_view}
use Rattle.dv_catalog.specs.Views.{reads_name}

-- this holds if no view has the name of a new one, and neither another view nor the new one reads it
abbrev pub IfUnread : ViewForm → List ViewForm → Type 0 → Type 0
IfUnread v views Holds = is_view v.name views ≡ false → reads_name views v.name ≡ false → is_read v.stages v.source v.name ≡ false → Holds
