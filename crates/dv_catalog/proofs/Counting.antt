-- How many documents an update counts.
use Rattle.std.proofs.Common.{◌≡◌, ℕ, Bool, true, false, not, List, length, map, take, Result, Ok, Err, sym, ap, ◌∙◌}
use Rattle.dv_value.specs.Tree.{Field}
use Rattle.dv_value.specs.Results.{◌>>=◌}
use Rattle.dv_command.specs.Entries.{Updating}
use Rattle.dv_refusal.specs.declared.refusal.Refusal.{Refusal}
use Rattle.dv_catalog.specs.Changes.{Effect, put}
use Rattle.dv_catalog.specs.Effects.{all_or_first, changed_by, update_chosen}
use Rattle.dv_catalog.specs.Scan.{matching}

abbrev matched_of : Result Effect Refusal → ℕ
matched_of (Ok effect) = effect.matched
matched_of (Err refusal) = 0

counted : (changed : Result (List (List Field)) Refusal) (n : ℕ) (effect : Effect) → (changed >>= λ es. Ok (record { matched = n; changes = map put es })) ≡ Ok effect → effect.matched ≡ n
counted (Err refusal) n effect is = absurd cc
counted (Ok es) n effect is = ap matched_of (sym is)

abbrev chosen : Bool → Updating → List (List Field) → List (List Field)
chosen multi updating documents = all_or_first (not multi) (matching updating.filter documents)

counts_chosen : (updating : Updating) (documents : List (List Field)) (effect : Effect) → update_chosen updating documents ≡ Ok effect → effect.matched ≡ length (chosen updating.multi updating documents)
counts_chosen updating documents effect is = counted (changed_by updating.update (chosen updating.multi updating documents)) (length (chosen updating.multi updating documents)) effect is

pub all_counted : (updating : Updating) (documents : List (List Field)) (effect : Effect) → updating.multi ≡ true → update_chosen updating documents ≡ Ok effect → effect.matched ≡ length (matching updating.filter documents)
all_counted updating documents effect multi is = counts_chosen updating documents effect is ∙ ap (λ (b : Bool). length (chosen b updating documents)) multi

pub first_counted : (updating : Updating) (documents : List (List Field)) (effect : Effect) → updating.multi ≡ false → update_chosen updating documents ≡ Ok effect → effect.matched ≡ length (take 1 (matching updating.filter documents))
first_counted updating documents effect multi is = counts_chosen updating documents effect is ∙ ap (λ (b : Bool). length (chosen b updating documents)) multi
