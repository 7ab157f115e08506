-- How a `$group` is parsed: the parsed form, or the fault (MongoDB manual, "$group (aggregation)"). That fields may have any name, and
-- that `_id` may be at any place, are this server's own.
use Rattle.std.specs.Prelude.{ℕ, true, List, [], ◌∷◌, Option, Some, None, Result, Ok, Err, codes, if◌then◌else◌}
use Rattle.std.specs.Str.{bytes_eq}
use Rattle.dv_value.specs.Tree.{Tree, document, Field, list_of_fields}
use Rattle.dv_value.specs.Names.{value_under, without}
use Rattle.dv_row.specs.declared.fault.PipelineFault.{PipelineFault}
use Rattle.dv_row.specs.declared.fault.PipelineFault.TheVariants.{BadSpec}
use Rattle.dv_row.specs.Expressions.{Expression}
use Rattle.dv_value.specs.Results.{◌>>=◌, each}
use Rattle.dv_row.specs.ExpressionParsing.{expression_in}
use Rattle.dv_gather.specs.declared.accumulator.Accumulator.{Accumulator}
use Rattle.dv_gather.specs.declared.accumulator.Accumulator.TheVariants.{Sum, Min, Max, Push}
use Rattle.dv_gather.specs.Grouping.{Accumulation, Grouping}

-- the accumulator with this name
abbrev pub accumulator_named : List ℕ → Result Accumulator PipelineFault
accumulator_named name =
    if bytes_eq name (codes "$sum") then Ok Sum
    else if bytes_eq name (codes "$min") then Ok Min
    else if bytes_eq name (codes "$max") then Ok Max
    else if bytes_eq name (codes "$push") then Ok Push
    else Err BadSpec

abbrev pub accumulation : List ℕ → Accumulator → Expression → Accumulation
accumulation name a e = record { name = name; accumulator = a; argument = e }

-- a field with one accumulator and its expression
abbrev pub accumulator_alone : List ℕ → List Field → Result Accumulation PipelineFault
accumulator_alone name (f ∷ []) = accumulator_named f.0 >>= λ a. expression_in true f.1 >>= λ e. Ok (accumulation name a e)
accumulator_alone name fs = Err BadSpec

-- the accumulator of a field, which must be a document
abbrev pub accumulation_in : List ℕ → Tree → Result Accumulation PipelineFault
accumulation_in name (document fs) = accumulator_alone name (list_of_fields fs)
accumulation_in name v = Err BadSpec

-- a field of a `$group` other than `_id`
abbrev pub field_in : Field → Result Accumulation PipelineFault
field_in f = accumulation_in f.0 f.1

-- the key's expression, which is required
abbrev pub key_form : Option Tree → Result Expression PipelineFault
key_form None = Err BadSpec
key_form (Some v) = expression_in true v

abbrev pub grouping : Expression → List Accumulation → Grouping
grouping key fields = record { key = key; fields = fields }

-- a `$group` from its document: first the key under `_id`, then the other fields in written order
abbrev pub group_of : List Field → Result Grouping PipelineFault
group_of fs = key_form (value_under (codes "_id") fs) >>= λ key. each field_in (without (codes "_id") fs) >>= λ fields. Ok (grouping key fields)

-- the operand of `$group`: a document
unfoldable pub group_in : Tree → Result Grouping PipelineFault
group_in (document fs) = group_of (list_of_fields fs)
group_in v = Err BadSpec
