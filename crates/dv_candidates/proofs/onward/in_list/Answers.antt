use Rattle.std.proofs.Common.{◌≡◌, ◌∷◌, []}
use Rattle.dv_value.specs.View.{tree}
use Rattle.dv_candidates.proofs.Stands.{at_sole, sole_item}
use Rattle.dv_candidates.proofs.onward.in_list.Goals as goal

pub returns-in-len1-clause-stand : goal.returns-in-len1-clause-stand
returns-in-len1-clause-stand c =
    let v = tree c.element-item.result in
    let is : c.args.list.now ≡ v ∷ [] = sole_item tree c.as_slice.result.now c.args.list.now c.element-item.result c.as_slice.ensures c.in-len1.len_at_least c.in-len1.len_below c.element-item.is in
    rw is (at_sole c.requires v c.at_element.result c.at_element.ensures.stand)
