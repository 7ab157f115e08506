-- What an update changes in a document: nothing, one field, or the whole document.
use Rattle.std.specs.Prelude.{ℕ, Bool, true, false, List, [], ◌∷◌, Option, Some, None, codes, if◌then◌else◌}
use Rattle.std.specs.Str.{bytes_eq}
use Rattle.dv_value.specs.FieldChange.{with_field_changed}
use Rattle.dv_value.specs.Tree.{document, Field, fields_of}
use Rattle.dv_update.specs.Apply.{Path}
use Rattle.dv_order.specs.Same.{same_fields}
use Rattle.dv_update.specs.Update.{Operation, Edit, Update, operators, replacement}
use Rattle.dv_update.specs.declared.outcome.Outcome.{Outcome}
use Rattle.dv_update.specs.declared.outcome.Outcome.TheVariants as told

-- the name and the operation of an edit whose path is one name other than `_id`
abbrev pub edit_under : Path → Operation → Option (List ℕ × Operation)
edit_under (name ∷ []) o = if bytes_eq name (codes "_id") then None else Some (name, o)
edit_under path o = None

-- the name and the operation of the only edit in a list, if its path is one name other than `_id`
abbrev pub only_edit : List Edit → Option (List ℕ × Operation)
only_edit (e ∷ []) = edit_under e.0 e.1
only_edit es = None

-- the name and the operation of an update's only edit, if its path is one name other than `_id`; a replacement has none
abbrev pub sole_edit : Update → Option (List ℕ × Operation)
sole_edit (operators es) = only_edit es
sole_edit (replacement fields) = None

-- the name of the only edit; the empty name, which no path contains, if there is no such edit
abbrev pub name_of : Option (List ℕ × Operation) → List ℕ
name_of None = []
name_of (Some e) = e.0

-- the name of the only field that an update can change, if its path is one name other than `_id`; otherwise the empty name
abbrev pub sole_name : Update → List ℕ
sole_name update = name_of (sole_edit update)

-- the document that the outcome gives, from the old one; `name` is the field that may change
abbrev pub outcome_seen : List ℕ → List Field → Outcome → List Field
outcome_seen name d told.Same = d
outcome_seen name d (told.Field change) = with_field_changed name change d
outcome_seen name d (told.Whole e) = e

-- the document that an update's outcome gives, from the old one
abbrev pub document_seen : Update → List Field → Outcome → List Field
document_seen update d outcome = outcome_seen (sole_name update) d outcome

-- whether the outcome says that the document stays the same
abbrev pub stays : Outcome → Bool
stays told.Same = true
stays outcome = false

-- whether the outcome is a change of one field
abbrev pub is_field : Outcome → Bool
is_field (told.Field change) = true
is_field outcome = false

-- whether the document has the same encoding as before
abbrev pub stays_so : List ℕ → List Field → Outcome → Bool
stays_so name d outcome = same_fields (fields_of d) (fields_of (outcome_seen name d outcome))
