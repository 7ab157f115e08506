-- The documents that remain after a delete.
use Rattle.std.specs.Prelude.{◌≡◌, ℕ, Bool, List}
use Rattle.std.specs.List.{filter}
use Rattle.dv_value.specs.Tree.{Field}
use Rattle.dv_catalog.specs.State.{documents_of}
use Rattle.dv_core.specs.State.{State}

-- some of the documents, in their order
abbrev pub IsPart : List (List Field) → List (List Field) → Type 0
IsPart part documents = (stays : List Field → Bool) × (part ≡ filter stays documents)

-- of the documents of each namespace some are left, in their order
abbrev pub LeavesPart : State → State → Type 0
LeavesPart old new = (namespace : List ℕ) → IsPart (documents_of namespace new.catalog.namespaces) (documents_of namespace old.catalog.namespaces)
