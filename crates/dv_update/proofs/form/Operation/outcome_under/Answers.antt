use Rattle.std.proofs.Common.{◌≡◌, ◌∙◌, Ok, ap, sym}
use Rattle.dv_value.specs.Names.{value_under}
use Rattle.dv_value.specs.View.{tree}
use Rattle.dv_path.specs.Slots.{slot_of}
use Rattle.dv_update.specs.Inner.Outcome.{value_by}
use Rattle.dv_update.specs.View.{operation}
use Rattle.dv_update.proofs.OneField.{as_value}
use Rattle.dv_update.proofs.form.Operation.outcome_under.Goals as goal

pub returns-in-Some : goal.returns-in-Some
returns-in-Some c =
    let name = c.args.name.now in
    let o = operation c.args.self.now in
    let v = tree c.in-Some.value in
    let is : value_by o (slot_of (value_under name c.args.document.now)) ≡ Ok v = ap (λ there. value_by o (slot_of there)) (sym c.get.ensures) ∙ (rw c.in-Some.is at c.in_ok-value.ensures) in
    record { applied = as_value name o c.args.document.now v is c.set_under.result c.set_under.ensures.applied; same = c.set_under.ensures.same }
