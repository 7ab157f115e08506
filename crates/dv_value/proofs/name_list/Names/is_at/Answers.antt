use Rattle.std.proofs.Common.{◌≡◌, ℕ, true, List, Option, Some, ap, sym, ◌∙◌}
use Rattle.std.specs.Str.{bytes_eq}
use Rattle.std.proofs.lemmas.Slice.Eq.{bytes_eq-Decides}
use Rattle.dv_value.proofs.name_list.Names.is_at.Goals as goal

there_is : (o : Option (List ℕ)) (there name : List ℕ) → Some there ≡ o → (bytes_eq there name ≡ true → o ≡ Some name) × (o ≡ Some name → bytes_eq there name ≡ true)
there_is o there name e =
    let decides = bytes_eq-Decides there name in
    (λ same. sym e ∙ ap (λ n. Some n) (decides.0 same), λ e'. decides.1 (let same : Some there ≡ Some name = e ∙ e' in cc))

pub returns-in-Some : goal.returns-in-Some
returns-in-Some c = rw c.is.ensures (there_is _ _ c.args.name.now c.in-Some.ensures)

pub returns-in-None : goal.returns-in-None
returns-in-None c = rw (← c.in-None.ensures) (λ no. absurd cc, λ e. absurd cc)
