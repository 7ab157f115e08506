-- What `$unwind` returns for a row (MongoDB manual, "$unwind (aggregation)"). That its path leads only through documents is this
-- server's own.
use Rattle.std.specs.Prelude.{ℕ, Bool, List, [], ◌∷◌, map, Some, None, if◌then◌else◌}
use Rattle.dv_value.specs.Tree.{document, array, null, Elements, no_elements, Field, fields_of, list_of_fields, list_of_elements}
use Rattle.dv_value.specs.Names.{value_under, with_value_under, without}
use Rattle.dv_candidates.specs.Candidates.{Candidate}
use Rattle.dv_row.specs.Row.{Row}
use Rattle.dv_row.specs.declared.unwind.Unwind.{Unwind}

-- `look` applied to the fields, if the candidate is a document; otherwise Missing
abbrev pub in_document : (List Field → Candidate) → Candidate → Candidate
in_document look (Some (document fs)) = look (list_of_fields fs)
in_document look v = None

-- the value at a path that leads only through documents, or Missing
abbrev pub reached : List (List ℕ) → List Field → Candidate
reached [] fs = None
reached (name ∷ []) fs = value_under name fs
reached (name ∷ next ∷ names) fs = in_document (reached (next ∷ names)) (value_under name fs)

-- the fields with the value in place of the one under the name; without that field for Missing
abbrev pub set_under : List ℕ → Candidate → List Field → List Field
set_under name (Some v) fs = with_value_under name v fs
set_under name None fs = without name fs

-- the fields with the document under the name changed; unchanged if no document is there
abbrev pub changed_under : List ℕ → (List Field → List Field) → Candidate → List Field → List Field
changed_under name change (Some (document inner)) fs = with_value_under name (document (fields_of (change (list_of_fields inner)))) fs
changed_under name change v fs = fs

-- the fields with the value in place of the one at a path through documents; without that one for Missing
abbrev pub set_through : List (List ℕ) → Candidate → List Field → List Field
set_through [] v fs = fs
set_through (name ∷ []) v fs = set_under name v fs
set_through (name ∷ next ∷ names) v fs = changed_under name (set_through (next ∷ names) v) (value_under name fs) fs

-- the row, if rows without elements are kept; otherwise no row
abbrev pub preserved : Bool → Row → List Row
preserved preserve d = if preserve then d ∷ [] else []

-- the rows for an array: one for each element, with the element in place of the array; for an empty array the row without it, if such
-- rows are kept
abbrev pub rows_of_elements : Unwind → Row → Elements → List Row
rows_of_elements u d no_elements = preserved u.preserve (set_through u.path None d)
rows_of_elements u d vs = map (λ v. set_through u.path (Some v) d) (list_of_elements vs)

-- the rows for what the path leads to: those of an array; for null or Missing the row itself, if rows without elements are kept; for any
-- other value the row itself
abbrev pub unwound_rows : Unwind → Row → Candidate → List Row
unwound_rows u d None = preserved u.preserve d
unwound_rows u d (Some null) = preserved u.preserve d
unwound_rows u d (Some (array vs)) = rows_of_elements u d vs
unwound_rows u d (Some v) = d ∷ []

-- the rows that `$unwind` returns for a row
unfoldable pub unwound : Unwind → Row → List Row
unwound u d = unwound_rows u d (reached u.path d)
