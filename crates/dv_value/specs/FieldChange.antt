-- Changes of one field of a document.
use Rattle.std.specs.Prelude.{ℕ, List, [], ◌∷◌, ◌++◌, Option, Some, if◌then◌else◌}
use Rattle.dv_value.specs.Tree.{Tree, array, Field, elements_of, list_of_elements}
use Rattle.dv_value.specs.Names.{has_name, value_under, with_value_under}
use Rattle.dv_value.specs.View.{tree}
use Rattle.dv_value.specs.declared.field_change.FieldChange.{FieldChange}
use Rattle.dv_value.specs.declared.field_change.FieldChange.TheVariants.{Set, Push}

-- the fields with this value under the name: in its present place if a field has the name, or else as the last field
abbrev pub with_value_set : List ℕ → Tree → List Field → List Field
with_value_set name v fs = if has_name name fs then with_value_under name v fs else fs ++ (name, v) ∷ []

-- the fields, with the value appended to the array found under the name; unchanged if no array was found
abbrev pub with_found_pushed : Option Tree → List ℕ → Tree → List Field → List Field
with_found_pushed (Some (array vs)) name v fs = with_value_under name (array (elements_of (list_of_elements vs ++ v ∷ []))) fs
with_found_pushed found name v fs = fs

-- the fields with the value appended to the array under the name; unchanged if there is no array
abbrev pub with_value_pushed : List ℕ → Tree → List Field → List Field
with_value_pushed name v fs = with_found_pushed (value_under name fs) name v fs

-- the fields after a change of the field with this name
abbrev pub with_field_changed : List ℕ → FieldChange → List Field → List Field
with_field_changed name (Set v) fs = with_value_set name (tree v) fs
with_field_changed name (Push v) fs = with_value_pushed name (tree v) fs
