-- Updates in which the removals are applied last.
use Rattle.std.specs.Prelude.{ℕ, Bool, true, false, List, [], ◌∷◌, Result, Ok, if◌then◌else◌}
use Rattle.dv_value.specs.Tree.{Field}
use Rattle.dv_path.specs.Apart.{remove_each}
use Rattle.dv_update.specs.declared.fault.UpdateFault.{UpdateFault}
use Rattle.dv_update.specs.Apply.{edited}
use Rattle.dv_value.specs.Results.{◌>>=◌}
use Rattle.dv_update.specs.Update.{Operation, take_away, Edit}

-- whether the operation removes a field (`$unset`)
abbrev pub is_removal : Operation → Bool
is_removal take_away = true
is_removal o = false

-- the paths of the edits that remove a field
abbrev pub removals : List Edit → List (List (List ℕ))
removals [] = []
removals (e ∷ es) = if is_removal e.1 then e.0 ∷ removals es else removals es

-- the other edits
abbrev pub other_edits : List Edit → List Edit
other_edits [] = []
other_edits (e ∷ es) = if is_removal e.1 then other_edits es else e ∷ other_edits es

-- a document after the other edits, and then without what the removals' paths lead to
abbrev pub edited_removals_last : List Edit → List Field → Result (List Field) UpdateFault
edited_removals_last es d = edited (other_edits es) d >>= λ after. Ok (remove_each after (removals es))
