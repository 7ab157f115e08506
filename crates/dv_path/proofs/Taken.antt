-- Only paths that lead to a value take something away.
use Rattle.std.proofs.Common.{◌≡◌, ◌∙◌, ap, sym, refl, ℕ, Bool, true, false, List, [], ◌∷◌, if◌then◌else◌}
use Rattle.std.specs.Bool.{⊤}
use Rattle.std.specs.List.{filter}
use Rattle.dv_value.specs.Tree.{Tree, Field}
use Rattle.dv_path.specs.Apart.{IsApartFrom, AreAllApart, remove_each}
use Rattle.dv_path.specs.Inner.Apart.{is_taken, leads_to_value}
use Rattle.dv_path.specs.Removing.{remove}
use Rattle.dv_path.specs.Slots.{Slot, taken, slot}
use Rattle.dv_path.proofs.Parting.{slot_apart}
use Rattle.dv_path.proofs.Placed.{remove_nothing}

-- the paths lead to the same in both documents
abbrev AreSeen : List Field → List Field → List (List (List ℕ)) → Type 0
AreSeen old fs [] = ⊤
AreSeen old fs (p ∷ ps) = (slot fs p ≡ slot old p) × AreSeen old fs ps

seen-itself : (fs : List Field) (ps : List (List (List ℕ))) → AreSeen fs fs ps
seen-itself fs [] = tt
seen-itself fs (p ∷ ps) = (refl, seen-itself fs ps)

seen-removed : (old fs : List Field) (p : List (List ℕ)) (ps : List (List (List ℕ))) → IsApartFrom p ps → AreSeen old fs ps → AreSeen old (remove fs p) ps
seen-removed old fs p [] h s = tt
seen-removed old fs p (q ∷ ps) h s = (slot_apart fs p q h.0 ∙ s.0, seen-removed old fs p ps h.1 s.1)

no-value : (s : Slot) (w : Tree) → is_taken s ≡ false → s ≡ taken w → ⊥
no-value s w none is = let yes : is_taken s ≡ true = ap is_taken is in cc

taken-of : (ps : List (List (List ℕ))) (old fs : List Field) → AreAllApart ps → AreSeen old fs ps → remove_each fs (filter (leads_to_value old) ps) ≡ remove_each fs ps
taken-of [] old fs h s = refl
taken-of (p ∷ ps) old fs h s = by (leads_to_value old p) refl (λ gs seen. taken-of ps old gs h.1 seen)
  where
    by : (b : Bool) → leads_to_value old p ≡ b → ((gs : List Field) → AreSeen old gs ps → remove_each gs (filter (leads_to_value old) ps) ≡ remove_each gs ps)
        → remove_each fs (if b then p ∷ filter (leads_to_value old) ps else filter (leads_to_value old) ps) ≡ remove_each (remove fs p) ps
    by true is rest = rest (remove fs p) (seen-removed old fs p ps h.0 s.1)
    by false is rest =
        rest fs s.1
        ∙ ap (λ gs. remove_each gs ps) (sym (remove_nothing fs p (λ w at. no-value (slot old p) w is (sym s.0 ∙ at))))

pub taken-alone : (ps : List (List (List ℕ))) (fs : List Field) → AreAllApart ps → remove_each fs (filter (leads_to_value fs) ps) ≡ remove_each fs ps
taken-alone ps fs h = taken-of ps fs fs h (seen-itself fs ps)

from-filter : (t : List (List ℕ) → Bool) (p : List (List ℕ)) (ps : List (List (List ℕ))) → IsApartFrom p ps → IsApartFrom p (filter t ps)
from-filter t p [] h = tt
from-filter t p (q ∷ ps) h = by (t q) (from-filter t p ps h.1)
  where
    by : (b : Bool) → IsApartFrom p (filter t ps) → IsApartFrom p (if b then q ∷ filter t ps else filter t ps)
    by true rest = (h.0, rest)
    by false rest = rest

pub taken-apart : (t : List (List ℕ) → Bool) (ps : List (List (List ℕ))) → AreAllApart ps → AreAllApart (filter t ps)
taken-apart t [] h = tt
taken-apart t (p ∷ ps) h = by (t p) (taken-apart t ps h.1)
  where
    by : (b : Bool) → AreAllApart (filter t ps) → AreAllApart (if b then p ∷ filter t ps else filter t ps)
    by true rest = (from-filter t p ps h.0, rest)
    by false rest = rest
