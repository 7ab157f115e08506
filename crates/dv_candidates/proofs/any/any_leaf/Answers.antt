use Rattle.std.proofs.Common.{◌∙◌, sym, rules}
use Rattle.std.specs.List.{list_any}
use Rattle.dv_candidates.specs.Candidates.{whole, leaves, with_elements}
use Rattle.dv_candidates.proofs.any.any_leaf.Goals as goal
use Rattle.dv_value.specs.Inner.ListLaws.{any-flat_map}

pub returns : goal.returns
unfolding leaves
returns g c test answers =
    c.any_whole.ensures (λ x. list_any test (with_elements x)) (record { at = λ x b h. search (rules, h.1, h, answers) }) ∙ sym (any-flat_map test with_elements (whole c.args.document.now c.args.path.now))
