-- The fields so far, and what is left, are the document without those with the names.
use Rattle.std.proofs.Common.{map, drop}
use Rattle.dv_value.proofs.Removed.{IsCopied}
use Rattle.dv_value.proofs.value.Document.without_each.Given as goal

abbrev pub invariant-fields : goal.invariant-fields
invariant-fields l = IsCopied (map (λ n. n.now) l.names) l.self l.left (drop l.place l.self)
