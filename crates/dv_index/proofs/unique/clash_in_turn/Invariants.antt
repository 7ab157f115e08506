use Rattle.std.proofs.Common.{◌∷◌, [], drop}
use Rattle.dv_keyed.specs.Inner.Index.{form_of}
use Rattle.dv_index.specs.Inner.View.{afters, befores}
use Rattle.dv_index.specs.Unique as defined
use Rattle.dv_index.proofs.Tried.{InTurn}
use Rattle.dv_index.proofs.unique.clash_in_turn.Given as goal

abbrev pub invariant-each : goal.invariant-each
invariant-each l =
    InTurn (form_of l.index) l.index.pairs l.trial.gone l.trial.come (befores (drop l.replacing-index l.each)) (afters (drop l.replacing-index l.each)) (defined.replacing_clashes (form_of l.index ∷ []) (afters l.each) l.documents)
