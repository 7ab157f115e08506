-- A document in memory that stands in for one that is too deep to be made.
use Rattle.std.specs.Prelude.{◌≡◌, List, Option, Some, None, Result, Ok, Err, ⊤, ◌⊎◌}
use Rattle.std.specs.Option.{IfSome}
use Rattle.dv_value.specs.Tree.{Field}
use Rattle.dv_update.specs.Apply.{checked}
use Rattle.dv_value.specs.Results.{◌>>=◌}
use Rattle.dv_update.specs.Inner.StandIn.{Alike, IsLast}
use Rattle.dv_update.specs.declared.fault.UpdateFault.{UpdateFault}
use Rattle.dv_update.specs.declared.fault.UpdateFault.TheVariants.{NoMemory}
use Rattle.dv_update.specs.declared.stand_in.StandIn.{StandIn}
use Rattle.dv_update.specs.declared.stand_in.Last.{Last}

-- where the last path of many components led, if that is still known
abbrev pub IsKnown : List Field → Option Last → Type 0
IsKnown made last = IfSome last (λ l. IsLast made l.beginning l.rest.now l.size)

pub record Stands (made document : List Field) (last : Option Last) : Type 0 where
  pub alike : Alike made document
  pub known : IsKnown made last

-- the result of an edit for the document in memory stands in for its result for the other; `None` says nothing
abbrev pub Becomes : Result (Option StandIn) UpdateFault → Result (List Field) UpdateFault → Type 0
Becomes (Ok None) made = ⊤
Becomes (Ok (Some next)) made = (after : List Field) × (made ≡ Ok after) × Stands after next.document next.last
Becomes (Err f) made = (f ≡ NoMemory) ⊎ (made ≡ Err f)

-- the same for all edits
abbrev pub StandsFor : Result (Option (List Field)) UpdateFault → Result (List Field) UpdateFault → Type 0
StandsFor (Ok None) made = ⊤
StandsFor (Ok (Some document)) made = (after : List Field) × (made ≡ Ok after) × Alike after document
StandsFor (Err f) made = (f ≡ NoMemory) ⊎ (made ≡ Err f)

-- the result in memory is refused afterwards as the defined result is; if neither is refused, they are equal
abbrev pub Likewise : List Field → Result (List Field) UpdateFault → Result (List Field) UpdateFault → Type 0
Likewise old (Ok e) made = (made >>= checked old) ≡ checked old e
Likewise old (Err f) made = (f ≡ NoMemory) ⊎ (made ≡ Err f)
