-- The lists of documents that a message has next to a command's body (MongoDB manual, "OP_MSG": sections of kind 1).
use Rattle.std.specs.Prelude.{ℕ, Bool, true, false, List, [], ◌∷◌, Option, Some, None, Result, Ok, Err, if◌then◌else◌, ⊤}
use Rattle.std.specs.List.{list_all}
use Rattle.std.specs.Str.{bytes_eq}
use Rattle.dv_value.specs.Names.{value_under}
use Rattle.dv_value.specs.Tree.{Tree, Field}
use Rattle.dv_command.specs.Fields.{documents_in}
use Rattle.dv_refusal.specs.declared.refusal.Refusal.{Refusal}
use Rattle.dv_refusal.specs.declared.refusal.Refusal.TheVariants.{FailedToParse}

-- lists of documents with their names
abbrev pub CommandLists : Type 0
CommandLists = List (List ℕ × List (List Field))

-- whether a body is alone, with no list next to it
abbrev pub is_alone : CommandLists → Bool
is_alone [] = true
is_alone (list ∷ lists) = false

-- checks that the body is alone, as for most commands
abbrev pub check_alone : Bool → Result ⊤ Refusal
check_alone alone = if alone then Ok tt else Err FailedToParse

-- checks that the only list next to the body has this name, as for an insert, update or delete
abbrev pub check_only : List ℕ → CommandLists → Result ⊤ Refusal
check_only name lists = if list_all (λ list. bytes_eq name list.0) lists then Ok tt else Err FailedToParse

-- the documents of the list with this name, if any
abbrev pub list_under : List ℕ → CommandLists → Option (List (List Field))
list_under name [] = None
list_under name (list ∷ lists) = if bytes_eq name list.0 then Some list.1 else list_under name lists

-- the documents of a list, which must be either in the body or next to it, but not both (9)
abbrev pub in_either : Option Tree → Option (List (List Field)) → Result (List (List Field)) Refusal
in_either (Some value) None = documents_in value
in_either None (Some documents) = Ok documents
in_either None None = Err FailedToParse
in_either (Some value) (Some documents) = Err FailedToParse

-- the documents of the list with this name, in the body or next to it
abbrev pub listed_documents : List ℕ → List Field → CommandLists → Result (List (List Field)) Refusal
listed_documents name body lists = in_either (value_under name body) (list_under name lists)
