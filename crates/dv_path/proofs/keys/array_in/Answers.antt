use Rattle.std.proofs.Common.{◌∙◌, ap, sym, Some}
use Rattle.dv_value.specs.Tree.{array, elements_of}
use Rattle.dv_value.specs.View.{tree}
use Rattle.dv_value.specs.Inner.TreeLaws.{elements_again}
use Rattle.dv_candidates.specs.Candidates.{array_in}
use Rattle.dv_path.proofs.Items.{seen-at}
use Rattle.dv_path.proofs.keys.array_in.Goals as goal

pub returns-in-Array : goal.returns-in-Array
returns-in-Array c =
    let l = c.in-Array.list in
    sym (ap array_in (seen-at c.args.candidate c.in-Found.value c.in-Found.is (array (elements_of l)) (ap tree c.in-Array.is)) ∙ ap Some (elements_again l))
