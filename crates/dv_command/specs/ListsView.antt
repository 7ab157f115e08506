-- What a list of documents next to a body represents in memory.
use Rattle.std.specs.Prelude.{ℕ, List}
use Rattle.dv_value.specs.Tree.{Field}
use Rattle.dv_command.specs.declared.command.DocumentList.{DocumentList}

-- its name and its documents
abbrev pub list_seen : DocumentList → List ℕ × List (List Field)
list_seen l = (l.name, l.documents.items)
