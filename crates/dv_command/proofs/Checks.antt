-- Fields, checked one after the other.
use Rattle.std.proofs.Common.{◌≡◌, ◌≢◌, List, [], ◌∷◌, length, ◌<◌, refl, arith, Err}
use Rattle.dv_value.specs.Tree.{document, Field, fields_of}
use Rattle.dv_refusal.specs.declared.refusal.Refusal.TheVariants.{FailedToParse}
use Rattle.dv_command.specs.Fields.{check_empty, check_single}

-- a document with fields isn't empty
pub some_fields : (fs : List Field) → fs ≢ [] → check_empty (document (fields_of fs)) ≡ Err FailedToParse
some_fields [] h = absurd (h refl)
some_fields (f ∷ fs) h = refl

-- if there are at least two fields, there is one after the first
pub several_fields : (fs : List Field) → 1 < length fs → check_single fs ≡ Err FailedToParse
several_fields [] h = absurd (omega arith)
several_fields (f ∷ []) h = absurd (omega arith)
several_fields (f ∷ g ∷ fs) h = refl
