use Rattle.std.proofs.Common.{◌≡◌, ◌∙◌, ◌++◌, ◌∷◌, [], ap, sym, inl, Ok, Err, rules, codes, List, ℕ, Bool, if◌then◌else◌}
use Rattle.dv_row.specs.Inner.AskedView.{asked}
use Rattle.dv_row.specs.Fault.{pipeline_fault_of_path}
use Rattle.dv_row.specs.ProjectParsing.{conflicts_with_asked}
use Rattle.dv_row.proofs.Members.{id-fault, id-is, form-is}
use Rattle.dv_row.proofs.asked.Asked.into_project.Goals as goal
use Rattle.dv_row.proofs.asked.Asked.into_project.Goals.{then-not-has_id+in_ok-push, else-not-has_id}

pub returns-in_err-id : goal.returns-in_err-id
returns-in_err-id c =
    let e = c.in_err-id.field-0.0 in
    let told : c.from_residual-in_err-id.result ≡ Err (pipeline_fault_of_path e) = search (rules, c.from_residual-in_err-id.ensures) in
    rw told (inl (id-fault e c.in_err-id.ensures))

pub returns : goal.returns
returns c =
    let self = asked c.args.self in
    let has = c.conflicts-has_id.result in
    let id = id-is c.in_ok-id.id c.in_ok-id.ensures in
    let con : conflicts_with_asked (codes "_id" ∷ []) self ≡ has = ap (λ p. conflicts_with_asked p self) (sym (c.components.ensures.components ∙ id)) ∙ sym c.conflicts-has_id.ensures in
    let choice : Bool → List (List (List ℕ)) = λ b. if b then self.included else self.included ++ (codes "_id" ∷ []) ∷ [] in
    let included : c.if-not-has_id.included.items ≡ choice has =
    elim c.if-not-has_id.branch [
      | then-not-has_id+in_ok-push w ↦ ap (λ v. v.items) w.included-is ∙ w.in_ok-push.ensures.items ∙ ap (λ p. self.included ++ p ∷ []) id ∙ ap choice (sym w.if-not-has_id.true)
      | else-not-has_id w ↦ ap (λ v. v.items) w.included-is ∙ ap choice (sym w.if-not-has_id.false)
    ] in
    ap Ok (form-is self has c.in_ok-shown.shown c.in_ok-computed.computed (sym c.includes.ensures ∙ c.if-not-includes.false) con (c.in_ok-shown.ensures ∙ included) (c.in_ok-computed.ensures ∙ c.of-3.ensures))
