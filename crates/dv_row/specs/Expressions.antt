-- Expressions (MongoDB manual, "Aggregation Expressions"): paths, constants, and documents of expressions. That there are no others is
-- this server's own.
use Rattle.std.specs.Prelude.{ℕ, suc, ◌+◌, ◌||◌, List, [], ◌∷◌, ◌++◌, Some, None, if◌then◌else◌}
use Rattle.dv_value.specs.Tree.{Tree, document, fields_of, Field}
use Rattle.dv_value.specs.Names.{has_name, has_zero}
use Rattle.dv_candidates.specs.Candidates.{Candidate}
use Rattle.dv_path.specs.Expression.{expr}

-- an expression; a document of expressions
mutual
  pub data Expression : Type 0 where
    -- a path, as its components
    at_path : List (List ℕ) → Expression
    -- a value that returns itself
    constant : Tree → Expression
    -- a document with an expression under each name
    made : Computed → Expression

  -- names, each with an expression
  pub data Computed : Type 0 where
    nothing : Computed
    computed : List ℕ → Expression → Computed → Computed

-- a list of names with expressions, as a document of expressions
abbrev pub computed_of : List (List ℕ × Expression) → Computed
computed_of [] = nothing
computed_of (e ∷ es) = computed e.0 e.1 (computed_of es)

-- the number of parts of an expression, itself included: the measure of recursions over it
abbrev mutual
  pub expression_weight : Expression → ℕ
  expression_weight (at_path path) = 1
  expression_weight (constant v) = 1
  expression_weight (made es) = suc (computed_weight es)

  pub computed_weight : Computed → ℕ
  computed_weight nothing = 0
  computed_weight (computed name e es) = suc (expression_weight e) + computed_weight es

-- The fields with one more at the end, if there is a value. If the name contains a zero byte, or a field already has it, nothing is
-- added; a parsed expression has no such name.
abbrev pub with_field_behind : List ℕ → Candidate → List Field → List Field
with_field_behind name None fs = fs
with_field_behind name (Some v) fs = if has_zero name || has_name name fs then fs else fs ++ (name, v) ∷ []

-- the value of an expression for a document, or Missing; fields, followed by those that are computed for a document
unfoldable mutual
  pub value_of : Expression → List Field → Candidate
  value_of (at_path path) d = expr d path
  value_of (constant v) d = Some v
  value_of (made es) d = Some (document (fields_of (with_computed es d [])))

  pub with_computed : Computed → List Field → List Field → List Field
  with_computed nothing d fs = fs
  with_computed (computed name e es) d fs = with_computed es d (with_field_behind name (value_of e d) fs)
