-- What holds of every state that can be reached.
use Rattle.std.specs.Prelude.{◌≡◌, ℕ, ◌<◌, ◌^◌, false, List, Option, Some, None, ⊤}
use Rattle.std.specs.List.{AllByRecursion}
use Rattle.dv_value.specs.Tree.{Field, fields_of}
use Rattle.dv_value.specs.Spelling.{AreFields, Fits, Spells, spelling}
use Rattle.dv_command.specs.declared.command.Command.{Command}
use Rattle.dv_command.specs.declared.command.Command.TheVariants.{Sections, Invalid}
use Rattle.dv_value.specs.declared.fault.BsonFault.TheVariants.{RefusedType}
use Rattle.dv_refusal.specs.declared.refusal.Refusal.{Refusal}
use Rattle.dv_refusal.specs.declared.refusal.Refusal.TheVariants.{InvalidBson}
use Rattle.dv_index.specs.Unique.{are_broken}
use Rattle.dv_catalog.specs.State.{documents_of, indexes_of, AreOrdered, IsOrdered}
use Rattle.dv_core.specs.State.{State}
use Rattle.dv_cursor.specs.Cursors.{rows_to_come}
use Rattle.dv_core.specs.Find.{has_too_large}
use Rattle.dv_pipe.specs.Laws.{AreSpellable}
use Rattle.dv_command.specs.Sound.{IsIndexName, IsSoundPipeline}

-- a valid document within the limits for stored documents
pub record IsSoundDocument (d : List Field) : Type 0 where
  pub valid : AreFields (fields_of d)
  pub fits : Fits d

-- the documents are in the order of `_id`, with which they begin, and each is valid and within the limits
abbrev pub AreSound : List (List Field) → Type 0
AreSound documents = AreOrdered documents × AllByRecursion IsSoundDocument documents

-- the documents of each namespace are in the order of `_id`, valid, and within the limits
abbrev pub AreSoundDocuments : State → Type 0
AreSoundDocuments state = (namespace : List ℕ) → AreSound (documents_of namespace state.catalog.namespaces)

-- the indexes of each namespace have valid names
abbrev pub AreSoundIndexes : State → Type 0
AreSoundIndexes state = (namespace : List ℕ) → AllByRecursion (λ index. IsIndexName index.name) (indexes_of namespace state.catalog.namespaces)

-- in a unique index no two documents have the same key
abbrev pub AreUnique : State → Type 0
AreUnique state = (namespace : List ℕ) → are_broken (indexes_of namespace state.catalog.namespaces) (documents_of namespace state.catalog.namespaces) ≡ false

-- each document of each namespace is within the limits
abbrev pub AreWithinLimits : State → Type 0
AreWithinLimits state = (namespace : List ℕ) → AllByRecursion Fits (documents_of namespace state.catalog.namespaces)

-- in every store the documents of each namespace are in strictly ascending order of `_id`, each is within the limits, and in a unique
-- index no two of them have the same key
pub record IsOrderly (state : State) : Type 0 where
  pub ordered : IsOrdered state.catalog
  pub fits : AreWithinLimits state
  pub unique : AreUnique state

-- the stages of each view were parsed from valid values
abbrev pub AreSoundViews : State → Type 0
AreSoundViews state = AllByRecursion (λ v. IsSoundPipeline v.stages) state.catalog.views

-- rows that can be returned: each is valid and within the limits for documents
abbrev pub AreShown : Option (List (List Field)) → Type 0
AreShown None = ⊤
AreShown (Some rows) = AreSpellable rows × (has_too_large rows ≡ false)

-- the rows not yet returned by each cursor can be returned
abbrev pub AreSoundCursors : State → Type 0
AreSoundCursors state = (session : ℕ) (namespace : List ℕ) (id : ℕ) → AreShown (rows_to_come session namespace id state.cursors)

-- a sound state: its documents, indexes, views and cursors are as stated above
pub record IsSound (state : State) : Type 0 where
  pub documents : AreSoundDocuments state
  pub indexes : AreSoundIndexes state
  pub unique : AreUnique state
  pub views : AreSoundViews state
  pub cursors : AreSoundCursors state

-- the documents in a command are valid and within the limits, as those that are read are
abbrev pub IsSoundCommand : Command → Type 0
IsSoundCommand (Sections body lists) = IsSoundDocument body × AllByRecursion (λ list. AllByRecursion IsSoundDocument list.1) lists
IsSoundCommand (Invalid fault) = ⊤

-- the byte and the offset in the refusal's fault, if it has them, are below 256 and below 2^64
abbrev pub IsBounded : Refusal → Type 0
IsBounded (InvalidBson (RefusedType byte at)) = (byte < 256) × (at < 2 ^ 64)
IsBounded refusal = ⊤

-- a document that can be encoded
abbrev pub HasSpelling : List Field → Type 0
HasSpelling d = Spells d (spelling d)
