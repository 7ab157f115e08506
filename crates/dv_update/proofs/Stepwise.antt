-- Edits each of which parts from the next one.
use Rattle.std.proofs.Common.{◌≡◌, refl, ap, ◌∙◌, List, [], ◌∷◌, ℕ, false, Ok, length, map, arith}
use Rattle.std.specs.List.{list_any, AllByRecursion}
use Rattle.std.specs.declared.cmp.Ordering.TheVariants.{Less}
use Rattle.std.proofs.lemmas.Bool.{or_from}
use Rattle.dv_update.specs.Parsing.{conflicts, has_conflict, in_order, placed, sorted}
use Rattle.dv_update.specs.PathOrder.{path_order, begins}
use Rattle.dv_update.specs.Inner.Collected.{Steps}
use Rattle.dv_update.specs.Update.{Edit, operators}
use Rattle.dv_update.specs.View.{edit}
use Rattle.dv_update.specs.declared.form.Edit as memory
use Rattle.dv_update.proofs.Lawful.{through}
use Rattle.dv_update.proofs.Paths.{begins-between}
use Rattle.dv_update.proofs.Placed.{Rises, is-false, clash, apart-below}

all-through : (e d : Edit) → path_order e.0 d.0 ≡ Less → (es : List Edit) → AllByRecursion (λ x. path_order d.0 x.0 ≡ Less) es → AllByRecursion (λ x. path_order e.0 x.0 ≡ Less) es
all-through e d l [] h = tt
all-through e d l (x ∷ es) h = (through e.0 d.0 x.0 l h.0, all-through e d l es h.1)

pub rises : (es : List Edit) → Steps es → Rises es
rises [] s = tt
rises (e ∷ []) s = (tt, tt)
rises (e ∷ d ∷ es) s =
    let up = rises (d ∷ es) s.2 in
    ((s.0, all-through e d s.0 es up.0), up)

-- a path comes before another one, and doesn't begin it
abbrev pub Before : List (List ℕ) → List (List ℕ) → Type 0
Before p q = (path_order p q ≡ Less) × (begins p q ≡ false)

abbrev pub AllBefore : List Edit → Type 0
AllBefore [] = Unit {0}
AllBefore (e ∷ es) = AllByRecursion (λ x. Before e.0 x.0) es × AllBefore es

before-each : (e d : Edit) → Before e.0 d.0 → (es : List Edit) → AllByRecursion (λ x. path_order d.0 x.0 ≡ Less) es → AllByRecursion (λ x. Before e.0 x.0) es
before-each e d first [] h = tt
before-each e d first (x ∷ es) h =
    let not-x : begins e.0 x.0 ≡ false = is-false (begins e.0 x.0) (λ b. clash (begins e.0 d.0) first.1 (begins-between e.0 d.0 x.0 first.0 h.0 b)) in
    ((through e.0 d.0 x.0 first.0 h.0, not-x), before-each e d first es h.1)

pub all-before : (es : List Edit) → Steps es → AllBefore es
all-before [] s = tt
all-before (e ∷ []) s = (tt, tt)
all-before (e ∷ d ∷ es) s = (((s.0, s.1), before-each e d (s.0, s.1) es (rises (d ∷ es) s.2).0), all-before (d ∷ es) s.2)

apart-each : (e : Edit) (es : List Edit) → AllByRecursion (λ x. Before e.0 x.0) es → list_any (conflicts e) es ≡ false
apart-each e [] h = refl
apart-each e (x ∷ es) h = or_from _ _ (apart-below e x h.0.0 h.0.1) (apart-each e es h.1)

none-conflict : (es : List Edit) → AllBefore es → has_conflict es ≡ false
none-conflict [] h = refl
none-conflict (e ∷ es) h = or_from _ _ (apart-each e es h.0) (none-conflict es h.1)

pub no_conflict : (es : List Edit) → Steps es → has_conflict es ≡ false
no_conflict es s = none-conflict es (all-before es s)

pub none-left : (edits : List memory.Edit) → length edits ≡ 0 → Steps (map edit edits)
none-left [] none = tt
none-left (e ∷ edits) none = absurd (omega arith)

sorted-steps : (es : List Edit) → Steps es → sorted es ≡ es
sorted-steps [] s = refl
sorted-steps (e ∷ []) s = refl
sorted-steps (e ∷ d ∷ es) s = ap (placed e) (sorted-steps (d ∷ es) s.2) ∙ rw (s.0) refl

-- they are in order
pub steps-in_order : (es : List Edit) → Steps es → in_order es ≡ Ok (operators es)
steps-in_order es s = rw (no_conflict es s, sorted-steps es s) refl
