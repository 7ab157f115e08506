use Rattle.std.proofs.Common.{◌≡◌, ◌∙◌, ap}
use Rattle.dv_value.specs.Tree.{array, elements_of}
use Rattle.dv_value.specs.View.{tree}
use Rattle.dv_value.specs.Inner.TreeLaws.{elements_again}
use Rattle.dv_path.specs.SortKey.{sort_keys_of, array_keys}
use Rattle.dv_candidates.specs.View.{seen}
use Rattle.dv_path.proofs.Items.{seen-at}
use Rattle.dv_path.proofs.sorting.earliest_with.Goals as goal

pub returns-in-Array : goal.returns-in-Array
returns-in-Array c =
    let here : sort_keys_of (seen c.args.candidate) ≡ array_keys c.in-Array.list = ap sort_keys_of (seen-at c.args.candidate c.in-Found.value c.in-Found.is (array (elements_of c.in-Array.list)) (ap tree c.in-Array.is)) ∙ ap array_keys (elements_again c.in-Array.list) in
    rw here c.earliest_with_elements.ensures
