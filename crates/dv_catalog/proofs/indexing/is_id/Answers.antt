use Rattle.std.proofs.Common.{◌≡◌, ◌≤◌, ℕ, Bool, false, true, ◌&&◌, List, [], ◌∷◌, length, refl, sym, ap, arith}
use Rattle.dv_keyed.specs.Choice.{same_path}
use Rattle.std.specs.Str.{bytes_eq}
use Rattle.dv_catalog.proofs.indexing.is_id.Goals as goal

not_both : (b : Bool) → b && false ≡ false
not_both true = refl
not_both false = refl

longer : (path : List (List ℕ)) (x : List ℕ) → 2 ≤ length path → same_path path (x ∷ []) ≡ false
longer [] x more = absurd (omega arith)
longer (y ∷ []) x more = absurd (omega arith)
longer (y ∷ z ∷ rest) x more = not_both (bytes_eq y x)

pub returns-in_default-2 : goal.returns-in_default-2
returns-in_default-2 c =
    let same : c.components.result.now ≡ c.args.path.now = c.components.ensures.components in
    let h = c.in_default.len_at_least in
    sym (longer c.args.path.now _ (omega (arith, h, ap length same)))
