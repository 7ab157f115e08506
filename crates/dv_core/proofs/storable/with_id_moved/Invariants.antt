use Rattle.std.proofs.Common.{codes}
use Rattle.dv_value.specs.View.{tree}
use Rattle.dv_core.proofs.Stored.{IsCopied}
use Rattle.dv_core.proofs.storable.with_id_moved.Given as goal

abbrev pub invariant-others : goal.invariant-others
invariant-others l = IsCopied (codes "_id", tree l.id) l.document l.copy l.name-iterator
