-- The reply to viewStats.
use Rattle.std.specs.Prelude.{List, Option, Some, None, Result, Ok, Err}
use Rattle.dv_value.specs.Tree.{Field}
use Rattle.dv_refusal.specs.declared.refusal.Refusal.{Refusal}
use Rattle.dv_refusal.specs.declared.refusal.Refusal.TheVariants.{NamespaceNotFound}
use Rattle.dv_command.specs.Asked.{ViewStats}
use Rattle.dv_command.specs.Replies.{view_stats_reply}
use Rattle.dv_catalog.specs.Marks.{Marked, Stats, stats_of}

-- the reply with these statistics; refused with 26 if no view has this name, even if a collection has it
abbrev pub told_of : Option Stats → Result (List Field) Refusal
told_of None = Err NamespaceNotFound
told_of (Some s) = Ok (view_stats_reply s.is_live s.rows s.ticks)

-- the reply to a viewStats
abbrev pub view_told : ViewStats → Marked → Result (List Field) Refusal
view_told asked marked = told_of (stats_of asked.namespace marked)
