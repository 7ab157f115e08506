-- There are errors, so their field is added.
use Rattle.std.proofs.Common.{◌≡◌, [], ◌∷◌, codes, map, rules}
use Rattle.dv_value.specs.Tree.{array, elements_of}
use Rattle.dv_value.specs.View.{tree}
use Rattle.dv_command.specs.Replies.{errors_field}
use Rattle.dv_command.proofs.Errors.{some_errors}
use Rattle.dv_command.proofs.replies.add_errors.Goals as goal

pub returns-in_ok-add : goal.returns-in_ok-add
returns-in_ok-add c =
    let some : errors_field (map tree c.args.errors.items) ≡ (codes "writeErrors", array (elements_of (map tree c.args.errors.items))) ∷ [] = some_errors c.args.errors.items (search rules) in
    rw (some, ← c.of.ensures) c.in_ok-add.ensures.ok
