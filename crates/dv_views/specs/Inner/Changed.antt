-- What only bodies and proofs need of `Changed`.
use Rattle.std.specs.Prelude.{◌≡◌, List, [], ◌∷◌, map, None, Some, IsSome, ⊤}
use Rattle.std.specs.List.{AllByRecursion}
use Rattle.dv_coll.specs.Collection.{HasId, IsAscending, found}
use Rattle.dv_change.specs.declared.change.Change.{Change}
use Rattle.dv_change.specs.declared.change.Change.TheVariants.{Put, Gone}
use Rattle.dv_change.specs.declared.position.Part.TheVariants.{Up}
use Rattle.dv_change.specs.declared.taking.Taken as taking
use Rattle.dv_change.specs.Changes.{Positioned, at, with_change}
use Rattle.dv_change.specs.Inner.Told.{change_told}
use Rattle.dv_pipe.specs.Sources.{Row}
use Rattle.dv_views.specs.Placed.{own_position}
use Rattle.dv_views.specs.Changed.{documents_changed}

-- a change that a collection makes: a document is put at its own position, or one that is there is removed
abbrev pub IsMade : Change → List Row → Type 0
IsMade (Put pos row) documents = HasId row × (pos ≡ own_position row)
IsMade (Gone (Up k ∷ [])) documents = IsSome (found k documents)
IsMade (Gone pos) documents = ⊥

abbrev pub AreMadeInTurn : List Change → List Row → Type 0
AreMadeInTurn [] documents = ⊤
AreMadeInTurn (c ∷ cs) documents = IsMade c documents × AreMadeInTurn cs (documents_changed (c ∷ []) documents)

-- changes that a collection makes one after the other
pub record AreMade (changes : List Change) (documents : List Row) : Type 0 where
  pub ascending : IsAscending documents
  pub identified : AllByRecursion HasId documents
  pub in_turn : AreMadeInTurn changes documents

-- changes of rows, one after the other, each with the row that was at its position before
abbrev pub AreToldOf : Positioned → List taking.Taken → Type 0
AreToldOf rows [] = ⊤
AreToldOf rows (t ∷ ts) = (t.old ≡ at t.pos rows) × AreToldOf (with_change rows (change_told t)) ts

-- the removals of these documents, one after the other
abbrev pub gone_each : List Row → List Change
gone_each documents = map (λ d. Gone (own_position d)) documents

-- the same, each with the document that was there
abbrev pub gones_of : List Row → List taking.Taken
gones_of documents = map (λ d. record { pos = own_position d; old = Some d; new = None }) documents
