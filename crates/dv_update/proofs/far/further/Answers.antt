use Rattle.std.proofs.Common.{◌∙◌, ap, sym, take, drop, length-drop}
use Rattle.std.proofs.Math.Seq.{take-length}
use Rattle.dv_update.proofs.far.further.Goals as goal

pub returns : goal.returns
returns c =
    let all = c.components-components.result.now in
    ap (λ n. take n (drop 300 all)) (sym (length-drop 300 all)) ∙ take-length (drop 300 all) ∙ ap (drop 300) c.components-components.ensures.components
