-- A value is smaller than the document or list that it is in.
use Rattle.std.specs.Prelude.{ℕ, ◌*◌, ◌≤◌, List, [], ◌∷◌, length, map}
use Rattle.std.specs.List.{zip}
use Rattle.std.proofs.Common.{arith}
use denote.Param.Weighed.{most}
use Rattle.dv_value.specs.declared.value.Value.{Value}
use Rattle.dv_value.specs.declared.value.Value.TheVariants.{Int32, Int64, Text, Doc, Array, Binary, ObjectId, Bool, Date, Null, Timestamp, MinKey, MaxKey}
use Rattle.dv_value.specs.declared.value.Document.TheDeep.{deep-Value}
use Rattle.dv_value.specs.Tree.{fields_of, elements_of}
use Rattle.dv_value.specs.Inner.Tree.{weight, fields_weight, elements_weight}
use Rattle.dv_value.specs.View.{tree}

pub value_falls : (v : Value) → deep-Value v ≤ 3 * weight (tree v)
value_falls (Int32 n) = omega arith
value_falls (Int64 n) = omega arith
value_falls (Text s) = omega arith
value_falls (Doc fs) = omega arith
value_falls (Array vs) = omega arith
value_falls (Binary subtype bytes) = omega arith
value_falls (ObjectId id) = omega arith
value_falls (Bool b) = omega arith
value_falls (Date n) = omega arith
value_falls Null = omega arith
value_falls (Timestamp n) = omega arith
value_falls MinKey = omega arith
value_falls MaxKey = omega arith

pub values_fall : (vs : List Value) → most deep-Value vs ≤ 3 * elements_weight (elements_of (map tree vs))
values_fall [] = omega arith
values_fall (v ∷ vs) = omega (arith, value_falls v, values_fall vs)

pub fields_fall : (ns : List (List ℕ)) (vs : List Value) → length vs ≤ length ns → most deep-Value vs ≤ 3 * fields_weight (fields_of (zip ns (map tree vs)))
fields_fall [] [] le = omega arith
fields_fall [] (v ∷ vs) le = absurd (omega arith)
fields_fall (n ∷ ns) [] le = omega arith
fields_fall (n ∷ ns) (v ∷ vs) le = omega (arith, value_falls v, fields_fall ns vs (omega arith))
