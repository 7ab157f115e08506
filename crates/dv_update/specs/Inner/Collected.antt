-- Edits one after the other: words that bodies need.
use Rattle.std.specs.Prelude.{◌≡◌, ◌⊎◌, ℕ, Bool, true, false, List, [], ◌∷◌, ◌++◌, Result, Ok, Err, ⊤}
use Rattle.std.specs.declared.cmp.Ordering.TheVariants.{Less}
use Rattle.dv_update.specs.Parsing.{has_conflict}
use Rattle.dv_update.specs.PathOrder.{path_order, begins}
use Rattle.dv_update.specs.Update.{Edit}
use Rattle.dv_update.specs.declared.fault.UpdateFault.{UpdateFault}
use Rattle.dv_update.specs.declared.fault.UpdateFault.TheVariants.{Conflict, NoMemory}

-- the list after these items, if there is one
abbrev pub behind : {X : Type 0} → List X → Result (List X) UpdateFault → Result (List X) UpdateFault
behind xs (Ok ys) = Ok (xs ++ ys)
behind xs (Err e) = Err e

-- whether the path of the last edit begins this one
abbrev pub last_begins : List (List ℕ) → List Edit → Bool
last_begins path [] = false
last_begins path (e ∷ []) = begins e.0 path
last_begins path (e ∷ es) = last_begins path es

-- each edit comes before the next one, and its path doesn't begin the next one's
abbrev pub Steps : List Edit → Type 0
Steps [] = ⊤
Steps (e ∷ []) = ⊤
Steps (e ∷ d ∷ es) = (path_order e.0 d.0 ≡ Less) × (begins e.0 d.0 ≡ false) × Steps (d ∷ es)

-- both lists of edits have a conflict, or neither has one
abbrev pub ConflictAlike : List Edit → List Edit → Type 0
ConflictAlike es ds = has_conflict es ≡ has_conflict ds

-- the fault is that memory ran out, or the conflict of edits that have one
abbrev pub IsConflictOf : List Edit → UpdateFault → Type 0
IsConflictOf es f = (f ≡ NoMemory) ⊎ ((f ≡ Conflict) × (has_conflict es ≡ true))
