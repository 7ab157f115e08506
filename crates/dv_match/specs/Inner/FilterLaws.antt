-- Filters: the weights of their parts, and what the first field of a document says of it.
use Rattle.std.proofs.Common.{◌≡◌, ap, sym, refl, List, [], ◌∷◌, ℕ, zero, suc, ◌≤◌, ◌<◌, false, map, Some, None, slice_get, length, get_or, arith}
use Rattle.dv_value.specs.Tree.{Tree, Field, fields_of}
use Rattle.dv_value.specs.Names.{begins_with_dollar}
use Rattle.dv_match.specs.declared.form.Member as memory
use Rattle.dv_match.specs.Filter.{Members, members_of, filters_of}
use Rattle.dv_match.specs.Inner.Filter.{member_weight, members_weight, filters_weight}
use Rattle.dv_match.specs.Parsing.{lists_operators}
use Rattle.dv_match.specs.View.{member}

pub member-weighs : (ms : List memory.Member) (i : ℕ) (m : memory.Member) → i < length ms → m ≡ get_or ms i m → member_weight (member m) ≤ members_weight (members_of (map member ms))
member-weighs [] i m within is = absurd (omega arith)
member-weighs (n ∷ ms) zero m within is = omega (arith, ap (λ x. member_weight (member x)) is)
member-weighs (n ∷ ms) (suc i) m within is = omega (arith, member-weighs ms i m (omega arith) is)

pub filter-weighs : (fs : List Members) (i : ℕ) (f : Members) → i < length fs → f ≡ get_or fs i f → members_weight f < filters_weight (filters_of fs)
filter-weighs [] i f within is = absurd (omega arith)
filter-weighs (g ∷ fs) zero f within is = omega (arith, ap members_weight is)
filter-weighs (g ∷ fs) (suc i) f within is = omega (arith, filter-weighs fs i f (omega arith) is)

pub first-operator : (fs : List Field) (name : List ℕ) (v : Tree) → Some (name, v) ≡ slice_get fs 0 → lists_operators (fields_of fs) ≡ begins_with_dollar name
first-operator [] name v e = absurd cc
first-operator (f ∷ fs) name v e =
    let same : (name, v) ≡ f = cc in
    ap (λ (g : Field). begins_with_dollar g.0) (sym same)

pub no-operator : (fs : List Field) → None ≡ slice_get fs 0 → lists_operators (fields_of fs) ≡ false
no-operator [] e = refl
no-operator (f ∷ fs) e = absurd cc
