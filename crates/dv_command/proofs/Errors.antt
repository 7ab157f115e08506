-- The field of a reply's errors.
use Rattle.std.proofs.Common.{◌≡◌, true, false, List, [], ◌∷◌, length, map, refl, sym, arith}
use Rattle.std.specs.Bool.{◌==◌}
use Rattle.std.specs.Prelude.{codes}
use Rattle.std.proofs.lemmas.Bool.{eqb-true}
use Rattle.dv_value.specs.declared.value.Value.{Value}
use Rattle.dv_value.specs.Names.{has_name}
use Rattle.dv_value.specs.Tree.{Tree, array, elements_of}
use Rattle.dv_value.specs.View.{tree}
use Rattle.dv_command.specs.Replies.{errors_field}

pub no_errors : (vs : List Value) → true ≡ (length vs == 0) → errors_field (map tree vs) ≡ []
no_errors [] e = refl
no_errors (v ∷ vs) e = absurd (omega (arith, eqb-true (length (v ∷ vs)) 0 (sym e)))

pub some_errors : (vs : List Value) → false ≡ (length vs == 0) → errors_field (map tree vs) ≡ (codes "writeErrors", array (elements_of (map tree vs))) ∷ []
some_errors [] e = cc
some_errors (v ∷ vs) e = refl

-- the field of the errors isn't `ok`
pub none_is_ok : (vs : List Tree) → has_name (codes "ok") (errors_field vs) ≡ false
none_is_ok [] = refl
none_is_ok (v ∷ vs) = refl
