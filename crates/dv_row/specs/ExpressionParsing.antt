-- How an expression is parsed: the parsed expression, or the first fault in written order (MongoDB manual, "Aggregation Expressions").
-- That numbers and booleans are not expressions in a `$project`, and which fault is reported, are this server's own.
use Rattle.std.specs.Prelude.{ℕ, ℤ, pos, negsuc, ◌==◌, ◌||◌, not, Bool, true, false, List, Option, Some, None, Result, Ok, Err, codes, if◌then◌else◌}
use Rattle.std.specs.Str.{bytes_eq}
use Rattle.dv_value.specs.Tree.{Tree, int32, int64, string, boolean, document, array, Fields, no_fields, field}
use Rattle.dv_value.specs.Names.{begins_with_dollar}
use Rattle.dv_path.specs.Names.{has_dot}
use Rattle.dv_row.specs.declared.fault.PipelineFault.{PipelineFault}
use Rattle.dv_row.specs.declared.fault.PipelineFault.TheVariants.{BadSpec}
use Rattle.dv_row.specs.Expressions.{Expression, at_path, constant, made, Computed, nothing, computed}
use Rattle.dv_row.specs.Parsing.{path_in}
use Rattle.dv_value.specs.Results.{◌>>=◌}

-- whether a number includes a field in a `$project`: any but 0 does
abbrev pub is_not_zero : ℤ → Bool
is_not_zero (pos n) = not (n == 0)
is_not_zero (negsuc n) = true

-- whether a number or a boolean in a `$project` includes or excludes a field; none for any other value
abbrev pub switch_in : Tree → Option Bool
switch_in (boolean b) = Some b
switch_in (int32 n) = Some (is_not_zero n)
switch_in (int64 n) = Some (is_not_zero n)
switch_in v = None

-- the value under `$literal`, if that is the document's only field
abbrev pub literal_in : Fields → Option Tree
literal_in (field name v no_fields) = if bytes_eq (codes "$literal") name then Some v else None
literal_in fs = None

-- a string that begins with a dollar sign is a path; any other is a constant
abbrev pub text_expression : List ℕ → Result Expression PipelineFault
text_expression text = if begins_with_dollar text then (path_in text >>= λ path. Ok (at_path path)) else Ok (constant (string text))

-- a constant if `$literal` was found, otherwise a document of expressions
abbrev pub literal_or_made : Option Tree → Result Computed PipelineFault → Result Expression PipelineFault
literal_or_made (Some v) fields = Ok (constant v)
literal_or_made None fields = fields >>= λ es. Ok (made es)

-- an expression under a name in a document of expressions: the name doesn't begin with a dollar sign and contains no dot
abbrev pub under_name : List ℕ → Result Expression PipelineFault → Result (List ℕ × Expression) PipelineFault
under_name name e = if begins_with_dollar name || has_dot name then Err BadSpec else (e >>= λ e. Ok (name, e))

-- a constant, but not if it is a number or boolean that includes or excludes a field
abbrev pub constant_or_fault : Option Bool → Tree → Result Expression PipelineFault
constant_or_fault (Some switch) v = Err BadSpec
constant_or_fault None v = Ok (constant v)

-- a constant; a number or boolean is one only if `plain` is true
abbrev pub constant_in : Bool → Tree → Result Expression PipelineFault
constant_in true v = Ok (constant v)
constant_in false v = constant_or_fault (switch_in v) v

-- a parsed expression; `plain` says whether numbers and booleans are constants
unfoldable mutual
  pub expression_in : Bool → Tree → Result Expression PipelineFault
  expression_in plain (string text) = text_expression text
  expression_in plain (document fs) = literal_or_made (literal_in fs) (computed_in plain fs)
  expression_in plain (array vs) = Err BadSpec
  expression_in plain v = constant_in plain v

  pub computed_in : Bool → Fields → Result Computed PipelineFault
  computed_in plain no_fields = Ok nothing
  computed_in plain (field name v fs) = under_name name (expression_in plain v) >>= λ e. computed_in plain fs >>= λ es. Ok (computed e.0 e.1 es)
