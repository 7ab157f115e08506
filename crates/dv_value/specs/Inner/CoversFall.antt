-- The values that are shown, and the fields' own values, are no larger than the fields with what they show.
use Rattle.std.specs.Prelude.{◌*◌, ◌+◌, ◌≤◌, List, [], ◌∷◌, Option, Some, None, map}
use Rattle.std.proofs.Common.{arith, ap}
use denote.Param.Weighed.{most}
use Rattle.dv_value.specs.declared.value.Cover.{Cover}
use Rattle.dv_value.specs.declared.value.Cover.TheVariants.{Absent, Shared}
use Rattle.dv_value.specs.declared.value.Document.TheDeep.{deep-Cover}
use Rattle.dv_value.specs.Tree.{Tree, int32, int64, string, document, array, boolean, binary, object_id, date, null, timestamp, min_key, max_key, Field, fields_of}
use Rattle.dv_value.specs.Inner.Covers.{covered, AreCovered}
use Rattle.dv_value.specs.Inner.Tree.{weight, fields_weight}
use Rattle.dv_value.specs.View.{covering}

weighs : (v : Tree) → 1 ≤ weight v
weighs (int32 n) = omega arith
weighs (int64 n) = omega arith
weighs (string s) = omega arith
weighs (document fs) = omega arith
weighs (array vs) = omega arith
weighs (boolean b) = omega arith
weighs (binary subtype bytes) = omega arith
weighs (object_id id) = omega arith
weighs (date n) = omega arith
weighs null = omega arith
weighs (timestamp n) = omega arith
weighs min_key = omega arith
weighs max_key = omega arith

pub own_fall : (fs : List Field) (cs : List (Option Tree)) → AreCovered fs cs → fields_weight (fields_of fs) ≤ fields_weight (fields_of (covered fs cs))
own_fall [] [] h = omega arith
own_fall [] (c ∷ cs) h = absurd h
own_fall (f ∷ fs) [] h = absurd h
own_fall (f ∷ fs) (None ∷ cs) h = omega (arith, own_fall fs cs h.1)
own_fall (f ∷ fs) (Some v ∷ cs) h = omega (arith, ap weight h.0, weighs v, own_fall fs cs h.1)

pub covers_fall : (fs : List Field) (cs : List Cover) → AreCovered fs (map covering cs) → most deep-Cover cs ≤ 3 * fields_weight (fields_of (covered fs (map covering cs))) + 1
covers_fall [] [] h = omega arith
covers_fall [] (c ∷ cs) h = absurd h
covers_fall (f ∷ fs) [] h = absurd h
covers_fall (f ∷ fs) (Absent ∷ cs) h = omega (arith, covers_fall fs cs h.1)
covers_fall (f ∷ fs) (Shared text ∷ cs) h = omega (arith, covers_fall fs cs h.1)
