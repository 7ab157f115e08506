-- each list so far is of the name
use Rattle.std.proofs.Common.{◌≡◌, drop, map}
use Rattle.std.specs.List.{list_all}
use Rattle.std.specs.Str.{bytes_eq}
use Rattle.dv_command.specs.ListsView.{list_seen}
use Rattle.dv_command.proofs.command.are_only.Given as goal

abbrev pub invariant-lists : goal.invariant-lists
invariant-lists l = list_all (λ list. bytes_eq l.fn.name list.0) (map list_seen l.fn.lists) ≡ list_all (λ list. bytes_eq l.fn.name list.0) (map list_seen (drop l.list-index l.fn.lists))
