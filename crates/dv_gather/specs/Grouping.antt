-- What `$group` returns for rows (MongoDB manual, "$group (aggregation)"). The order of the groups, and which row the encoding of a key
-- is taken from, are this server's own.
use Rattle.std.specs.Prelude.{ℕ, List, [], ◌∷◌, Option, Some, None, codes, map}
use Rattle.dv_value.specs.Tree.{Tree, array, null, Field, elements_of}
use Rattle.dv_candidates.specs.Candidates.{Candidate, or_null}
use Rattle.dv_row.specs.Expressions.{Expression, value_of, with_field_behind}
use Rattle.dv_row.specs.Row.{Row}
use Rattle.dv_gather.specs.declared.extreme.Extreme.TheVariants.{Least, Greatest}
use Rattle.dv_gather.specs.declared.accumulator.Accumulator.{Accumulator}
use Rattle.dv_gather.specs.declared.accumulator.Accumulator.TheVariants.{Sum, Min, Max, Push}
use Rattle.dv_gather.specs.Extremes.{extreme_of}
use Rattle.dv_gather.specs.Groups.{Keyed, groups_of}
use Rattle.dv_gather.specs.Sums.{sum_of}

-- a field of a group: its name, and an accumulator over the values of an expression
pub record Accumulation : Type 0 where
  pub name : List ℕ
  pub accumulator : Accumulator
  pub argument : Expression

-- a parsed `$group`: the expression of the key, and the fields
pub record Grouping : Type 0 where
  pub key : Expression
  pub fields : List Accumulation

-- the key of a row; null for Missing
abbrev pub key_in : Grouping → Row → Tree
key_in g d = or_null (value_of g.key d)

-- a row with its key
abbrev pub keyed : Grouping → Row → Keyed
keyed g d = (key_in g d, d)

-- the value in front of the others; nothing is added for Missing
abbrev pub with_present : Candidate → List Tree → List Tree
with_present None vs = vs
with_present (Some v) vs = v ∷ vs

-- the values of an expression over rows, without Missing
abbrev pub values_over : Expression → List Row → List Tree
values_over e [] = []
values_over e (d ∷ ds) = with_present (value_of e d) (values_over e ds)

-- what an accumulator returns for values
abbrev pub accumulated : Accumulator → List Tree → Tree
accumulated Sum vs = sum_of vs
accumulated Min vs = extreme_of Least vs
accumulated Max vs = extreme_of Greatest vs
accumulated Push vs = array (elements_of vs)

-- the value of a field over the rows of a group
abbrev pub field_over : Accumulation → List Row → Tree
field_over a ds = accumulated a.accumulator (values_over a.argument ds)

-- the fields, followed by those that the accumulators return
abbrev pub with_accumulated : List Accumulation → List Row → List Field → List Field
with_accumulated [] ds fs = fs
with_accumulated (a ∷ more) ds fs = with_accumulated more ds (with_field_behind a.name (Some (field_over a ds)) fs)

-- the key of a group, as its first row has it
abbrev pub key_of_group : Grouping → List Row → Tree
key_of_group g [] = null
key_of_group g (d ∷ ds) = key_in g d

-- the row that `$group` returns for a group
abbrev pub group_row : Grouping → List Row → Row
group_row g ds = with_accumulated g.fields ds ((codes "_id", key_of_group g ds) ∷ [])

-- the row that `$group` returns for these rows; none if there are none
abbrev pub row_shown : Grouping → List Row → Option Row
row_shown g [] = None
row_shown g (d ∷ ds) = Some (group_row g (d ∷ ds))

-- the rows that `$group` returns: one for each group
unfoldable pub grouped : Grouping → List Row → List Row
grouped g ds = map (group_row g) (groups_of (map (keyed g) ds))
