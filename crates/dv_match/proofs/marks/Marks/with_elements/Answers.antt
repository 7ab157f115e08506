use Rattle.std.proofs.Common.{◌∷◌, [], map, Some, subst, sym}
use Rattle.dv_candidates.specs.View.{seen}
use Rattle.dv_match.specs.Inner.Blocks.{Marked}
use Rattle.dv_match.proofs.Arrays.{array-parts}
use Rattle.dv_match.proofs.Marked.{marked-more}
use Rattle.dv_match.proofs.marks.Marks.with_elements.Goals as goal

pub returns-in-Array : goal.returns-in-Array
returns-in-Array c =
    let block = c.args.block.now in
    let l = c.in-Array.list in
    subst (λ cs. Marked block cs c.args.self c.with_each.result) (sym (array-parts c.args.candidate c.in-Found.value c.in-Found.is l c.in-Array.is))
    (marked-more block (seen c.args.candidate ∷ []) (map Some l) c.args.self c.with_candidate-marks.result c.with_each.result c.with_candidate-marks.ensures c.with_each.ensures)
