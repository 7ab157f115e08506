-- The first name of a document.
use Rattle.std.proofs.Common.{◌≡◌, ap, sym, List, [], ◌∷◌, ℕ, Some, None, slice_get, false, ◌&&◌, not, refl}
use Rattle.dv_value.specs.Tree.{Tree, Field, fields_of}
use Rattle.dv_value.specs.Names.{begins_with_dollar}
use Rattle.dv_match.specs.Parsing.{takes_filters, lists_conditions}

pub first-condition : (fs : List Field) (name : List ℕ) (v : Tree) → Some (name, v) ≡ slice_get fs 0 → lists_conditions (fields_of fs) ≡ (begins_with_dollar name && not (takes_filters name))
first-condition [] name v e = absurd cc
first-condition (f ∷ fs) name v e =
    let same : (name, v) ≡ f = cc in
    ap (λ (g : Field). begins_with_dollar g.0 && not (takes_filters g.0)) (sym same)

pub no-condition : (fs : List Field) → None ≡ slice_get fs 0 → lists_conditions (fields_of fs) ≡ false
no-condition [] e = refl
no-condition (f ∷ fs) e = absurd cc
