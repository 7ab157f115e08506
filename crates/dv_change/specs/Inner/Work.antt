-- What only bodies and proofs need about `Work`.
use Rattle.std.specs.Prelude.{ℕ, ◌+◌, ◌-◌, List, [], ◌∷◌, length, if◌then◌else◌, nat_lt, ◌<◌, ⊤}
use Rattle.std.specs.List.{flat_map}
use Rattle.dv_change.specs.declared.change.Change.{Change}
use Rattle.dv_change.specs.declared.input.Input.{Input}
use Rattle.dv_change.specs.declared.input.Input.TheVariants.{Left, Named}
use Rattle.dv_change.specs.Changes.{Positioned}
use Rattle.dv_change.specs.Inputs.{input_changed_at}
use Rattle.dv_change.specs.Work.{Transform, handed}

-- the lists that stages read by `$lookup`, those of each stage after those of the stages before it
abbrev pub lists_of : List Transform → List Positioned
lists_of forms = flat_map (λ form. form.named) forms

-- how many lists the stages read by `$lookup`
abbrev pub named_in : List Transform → ℕ
named_in [] = 0
named_in (form ∷ forms) = length form.named + named_in forms

-- there is a list for the input
abbrev pub HasAny : Input → List Transform → Type 0
HasAny Left forms = ⊤
HasAny (Named i) forms = i < named_in forms

abbrev pub forms_named : ℕ → Change → List Transform → List Transform
forms_named i change [] = []
forms_named i change (form ∷ forms) = if nat_lt i (length form.named) then record { makes = form.makes; named = input_changed_at i change form.named } ∷ forms else form ∷ forms_named (i - length form.named) change forms

-- the stages, after a change of an input
abbrev pub forms_after : Input → Change → List Transform → List Transform
forms_after Left change forms = forms
forms_after (Named i) change forms = forms_named i change forms

-- the work of one stage for changes of its rows: 1 for each change that it takes in, and 1 for each that it returns
abbrev pub stage_work : (Positioned → Positioned) → Positioned → List Change → ℕ
stage_work makes rows changes = length changes + length (handed makes rows changes)
