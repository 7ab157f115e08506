-- The next field is the first of those that are left.
use Rattle.std.proofs.Common.{◌≡◌, ◌∙◌, ◌+◌, ◌∷◌, Some, ap, sym, drop, rules}
use Rattle.dv_value.specs.Tree.{Field}
use Rattle.dv_value.specs.View.{tree}
use Rattle.dv_value.specs.Inner.ListLaws.{drop_item}
use Rattle.dv_value.proofs.value.iter.DocumentIterIterator.next.Goals as goal

pub returns-clause-steps : goal.returns-clause-steps
returns-clause-steps c =
    let fields = c.self.inside.document.now in
    let start = c.self.inside.places.start in
    let field : Field = (c.field.result.0.now, tree c.field.result.1.now) in
    let first : start ≡ c.in_ok-place.place = search rules in
    let after : start + 1 ≡ c.next.new.self.start = search rules in
    sym c.self.view_is ∙ drop_item fields start field (rw first c.field.ensures) ∙ ap (λ n. field ∷ drop n fields) after
