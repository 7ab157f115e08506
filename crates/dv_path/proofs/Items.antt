-- Items that a loop or a call reads, and lists that are seen as fields and elements.
use Rattle.std.proofs.Common.{◌≡◌, Some, ap, ◌∙◌}
use Rattle.dv_value.specs.Tree.{Tree}
use Rattle.dv_value.specs.View.{tree}
use Rattle.dv_value.specs.declared.value.Value.{Value}
use Rattle.dv_candidates.specs.View.{seen}
use Rattle.dv_candidates.specs.declared.candidate.Candidate as memory
use Rattle.dv_candidates.specs.declared.candidate.Candidate.TheVariants.{Found}
use denote.Ref.{Bor}

-- the value that a candidate in memory leads to
pub seen-at : (c : memory.Candidate) (value : Bor Value) → c ≡ Found value → (v : Tree) → tree value.now ≡ v → seen c ≡ Some v
seen-at c value at v e = ap seen at ∙ ap Some e
