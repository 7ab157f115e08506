use Rattle.std.proofs.Common.{◌≡◌, ◌++◌, drop}
use Rattle.std.specs.Option.{option_map}
use Rattle.dv_catalog.specs.Inner.Told.{documents_in, gones_told}
use Rattle.dv_catalog.proofs.view_changes.all_gone.Given as goal

abbrev pub invariant-keys : goal.invariant-keys
invariant-keys l = let documents = documents_in (option_map (λ c. c.now) l.fn.collection) in l.all.items ++ gones_told documents (drop l.key-index l.keys) ≡ gones_told documents l.fn.keys
