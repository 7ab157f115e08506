use Rattle.std.proofs.Common.{Bor, ◌≡◌, List, map, take}
use Rattle.dv_value.specs.Tree.{Field}
use Rattle.dv_index.proofs.Picked.{each, now}
use Rattle.dv_index.proofs.search.documents_under.Given as goal

abbrev pub invariant-ids : goal.invariant-ids
invariant-ids l = map (λ (d : Bor (List Field)). d.now) l.found.items ≡ each (map now (take l.id-index l.ids)) l.collection
