use Rattle.std.proofs.Common.{Bor, ◌≡◌, map, take}
use Rattle.dv_order.specs.Key.{KeyTree}
use Rattle.dv_pipe.specs.Sources.{rows_referred}
use Rattle.dv_catalog.proofs.Lent.{key_by_key}
use Rattle.dv_catalog.proofs.keyed.rows_under.Given as goal

abbrev pub invariant-keys : goal.invariant-keys
invariant-keys l = rows_referred l.under.items ≡ key_by_key (map (λ (k : Bor KeyTree). k.now) (take l.key-index l.keys)) l.rows
