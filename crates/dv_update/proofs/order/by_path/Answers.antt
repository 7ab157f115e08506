use Rattle.std.proofs.Common.{◌≡◌, ◌∙◌, ap, map, ◌++◌, ◌∷◌, [], Err, rules, inl, inr}
use Rattle.std.proofs.lemmas.List.{map-append}
use Rattle.dv_update.specs.View.{edit}
use Rattle.dv_update.proofs.Placed.{none_placed, one_placed, not_placed}
use Rattle.dv_update.proofs.order.by_path.Goals as goal

pub edits-init : goal.edits-init
edits-init c = (rw c.new-places.ensures.empty (none_placed (map edit c.args.edits.items)), c.new-places.ensures.ordered)

pub edits-preserved : goal.edits-preserved
edits-preserved c =
    let rest = map edit c.pop.new.self.items in
    let is : map edit c.edits.edits.items ≡ rest ++ edit c.in-Some.edit ∷ [] = ap (map edit) c.in-Some.ensures.items ∙ map-append edit c.pop.new.self.items _ in
    (rw c.in_ok-place.ensures.placed (one_placed rest c.edits.invariant.0 (edit c.in-Some.edit) is), c.in_ok-place.ensures.ordered)

pub returns-in_err-place-clause-conflicts : goal.returns-in_err-place-clause-conflicts
returns-in_err-place-clause-conflicts c =
    let rest = map edit c.pop.new.self.items in
    let is : map edit c.edits.edits.items ≡ rest ++ edit c.in-Some.edit ∷ [] = ap (map edit) c.in-Some.ensures.items ∙ map-append edit c.pop.new.self.items _ in
    let told : c.from_residual.result ≡ Err c.in_err-place.field-0.0 = search (rules, c.from_residual.ensures) in
    rw told (elim c.in_err-place.ensures.err [ inl m ↦ inl m | inr p ↦ inr (p.0, not_placed rest c.edits.invariant.0 (edit c.in-Some.edit) is p.1) ])
