-- no list so far is of the name
use Rattle.std.proofs.Common.{◌≡◌, drop, map}
use Rattle.dv_command.specs.Lists as lists
use Rattle.dv_command.specs.ListsView.{list_seen}
use Rattle.dv_command.proofs.command.list_under.Given as goal

abbrev pub invariant-lists : goal.invariant-lists
invariant-lists l = lists.list_under l.fn.name (map list_seen l.fn.lists) ≡ lists.list_under l.fn.name (map list_seen (drop l.list-index l.fn.lists))
