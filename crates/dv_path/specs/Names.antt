-- Names that a stored document may not have: with a dot at any level, since a dot separates the names of a path; with a dollar sign in
-- front at the top level, since that begins an operator.
use Rattle.std.specs.Prelude.{ℕ, false, ◌||◌, Bool, List, ◌==◌}
use Rattle.std.specs.List.{list_any}
use Rattle.dv_value.specs.Tree.{Tree, document, array, Fields, no_fields, field, Elements, no_elements, element, Field, fields_of}
use Rattle.dv_value.specs.Names.{begins_with_dollar}

-- whether the name contains a dot (46)
abbrev pub has_dot : List ℕ → Bool
has_dot name = list_any (λ b. b == 46) name

-- whether a field name contains a dot, at any level
abbrev mutual
  pub is_dotted : Tree → Bool
  is_dotted (document fs) = are_fields_dotted fs
  is_dotted (array vs) = are_elements_dotted vs
  is_dotted v = false

  pub are_fields_dotted : Fields → Bool
  are_fields_dotted no_fields = false
  are_fields_dotted (field name v fs) = has_dot name || is_dotted v || are_fields_dotted fs

  pub are_elements_dotted : Elements → Bool
  are_elements_dotted no_elements = false
  are_elements_dotted (element v vs) = is_dotted v || are_elements_dotted vs

-- whether a name begins with a dollar sign at the top level, or contains a dot at any level
abbrev pub has_bad_name : List Field → Bool
has_bad_name fs = list_any (λ f. begins_with_dollar f.0) fs || are_fields_dotted (fields_of fs)
