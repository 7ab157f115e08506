-- The order ignores the width of integers, and distinguishes values that differ in anything else.
use Rattle.std.specs.Prelude.{◌≡◌, ◌↔◌, Bool, true, false, Option, None, Some, length, ◌<◌, refl}
use Rattle.std.proofs.Common.{sym, ap, ◌∙◌}
use Rattle.std.specs.declared.cmp.Ordering.{Ordering}
use Rattle.std.specs.declared.cmp.Ordering.TheVariants.{Less, Equal, Greater}
use Rattle.std.specs.Ordering.{ordering_then, nat_cmp, bool_cmp}
use Rattle.std.specs.Cmp.{tied_itself, nat_cmp_is}
use Rattle.std.specs.Cmp.Lexicographic.{slice_cmp}
use Rattle.std.specs.FinMap.{nat_cmp-IsAntisymmetric, int_cmp-IsAntisymmetric, slice_cmp-IsAntisymmetric}
use Rattle.dv_value.specs.Tree.{Tree, int32, int64, string, document, array, boolean, binary, object_id, date, null, timestamp, min_key, max_key, Fields, no_fields, field, Elements, no_elements, element}
use Rattle.dv_order.specs.Order.{canon, fields_canon, elements_canon, class, fields_order, elements_order, order}
use Rattle.dv_order.specs.Key.{value, key_order, key_at}
use Rattle.dv_order.specs.Inner.KeyLaws.{no_class, no_class_back}
use Rattle.dv_order.specs.Inner.TotalOrder.{order_total, classes_first}

pub class_of_canon : (v : Tree) → class (canon v) ≡ class v
class_of_canon (int32 n) = refl
class_of_canon v = refl

mutual
  pub order_of_canon : (v w : Tree) → order (canon v) (canon w) ≡ order v w
  order_of_canon (int32 m) (int32 n) = refl
  order_of_canon (int32 m) (int64 n) = refl
  order_of_canon (int64 m) (int32 n) = refl
  order_of_canon (int64 m) (int64 n) = refl
  order_of_canon (string s) (string t) = refl
  order_of_canon (document fs) (document gs) = fields_order_of_canon fs gs
  order_of_canon (array vs) (array ws) = elements_order_of_canon vs ws
  order_of_canon (boolean a) (boolean b) = refl
  order_of_canon (binary s bs) (binary t cs) = refl
  order_of_canon (object_id a) (object_id b) = refl
  order_of_canon (date m) (date n) = refl
  order_of_canon (timestamp m) (timestamp n) = refl
  order_of_canon null null = refl
  order_of_canon min_key min_key = refl
  order_of_canon max_key max_key = refl
  order_of_canon v w = refl

  fields_order_of_canon : (fs gs : Fields) → fields_order (fields_canon fs) (fields_canon gs) ≡ fields_order fs gs
  fields_order_of_canon (field a v fs) (field b w gs) = λ i.
      ordering_then (nat_cmp (class_of_canon v i) (class_of_canon w i)) (ordering_then (slice_cmp nat_cmp a b) (ordering_then (order_of_canon v w i) (fields_order_of_canon fs gs i)))
  fields_order_of_canon no_fields no_fields = refl
  fields_order_of_canon no_fields (field b w gs) = refl
  fields_order_of_canon (field a v fs) no_fields = refl

  elements_order_of_canon : (vs ws : Elements) → elements_order (elements_canon vs) (elements_canon ws) ≡ elements_order vs ws
  elements_order_of_canon (element v vs) (element w ws) = λ i. ordering_then (order_of_canon v w i) (elements_order_of_canon vs ws i)
  elements_order_of_canon no_elements no_elements = refl
  elements_order_of_canon no_elements (element w ws) = refl
  elements_order_of_canon (element v vs) no_elements = refl

-- what is equal in two steps is so in each
pub both_Equal : (a b : Ordering) → ordering_then a b ≡ Equal → (a ≡ Equal) × (b ≡ Equal)
both_Equal Less b e = cc
both_Equal Equal b e = (refl, e)
both_Equal Greater b e = cc

same_bool : (a b : Bool) → bool_cmp a b ≡ Equal → a ≡ b
same_bool false false e = refl
same_bool true true e = refl
same_bool a b e = cc

mutual
  canon_same : (v w : Tree) → order v w ≡ Equal → canon v ≡ canon w
  canon_same (int32 m) (int32 n) e = ap int64 (int_cmp-IsAntisymmetric m n e)
  canon_same (int32 m) (int64 n) e = ap int64 (int_cmp-IsAntisymmetric m n e)
  canon_same (int64 m) (int32 n) e = ap int64 (int_cmp-IsAntisymmetric m n e)
  canon_same (int64 m) (int64 n) e = ap int64 (int_cmp-IsAntisymmetric m n e)
  canon_same (string s) (string t) e = ap string (slice_cmp-IsAntisymmetric nat_cmp-IsAntisymmetric s t e)
  canon_same (document fs) (document gs) e = ap document (fields_canon_same fs gs e)
  canon_same (array vs) (array ws) e = ap array (elements_canon_same vs ws e)
  canon_same (boolean a) (boolean b) e = ap boolean (same_bool a b e)
  canon_same (binary s bs) (binary t cs) e =
      let behind = both_Equal (nat_cmp (length bs) (length cs)) _ e in
      let parts = both_Equal (nat_cmp s t) _ behind.1 in
      let subtype = nat_cmp-IsAntisymmetric s t parts.0 in
      let bytes = slice_cmp-IsAntisymmetric nat_cmp-IsAntisymmetric bs cs parts.1 in
      λ i. binary (subtype i) (bytes i)
  canon_same (object_id a) (object_id b) e = ap object_id (slice_cmp-IsAntisymmetric nat_cmp-IsAntisymmetric a b e)
  canon_same (date m) (date n) e = ap date (int_cmp-IsAntisymmetric m n e)
  canon_same (timestamp m) (timestamp n) e = ap timestamp (nat_cmp-IsAntisymmetric m n e)
  canon_same null null e = refl
  canon_same min_key min_key e = refl
  canon_same max_key max_key e = refl
  canon_same v w e = cc

  fields_canon_same : (fs gs : Fields) → fields_order fs gs ≡ Equal → fields_canon fs ≡ fields_canon gs
  fields_canon_same no_fields no_fields e = refl
  fields_canon_same (field a v fs) (field b w gs) e =
      let classes = both_Equal (nat_cmp (class v) (class w)) _ e in
      let names = both_Equal (slice_cmp nat_cmp a b) _ classes.1 in
      let values = both_Equal (order v w) (fields_order fs gs) names.1 in
      let name = slice_cmp-IsAntisymmetric nat_cmp-IsAntisymmetric a b names.0 in
      let same = canon_same v w values.0 in
      let rest = fields_canon_same fs gs values.1 in
      λ i. field (name i) (same i) (rest i)
  fields_canon_same fs gs e = cc

  elements_canon_same : (vs ws : Elements) → elements_order vs ws ≡ Equal → elements_canon vs ≡ elements_canon ws
  elements_canon_same no_elements no_elements e = refl
  elements_canon_same (element v vs) (element w ws) e =
      let values = both_Equal (order v w) (elements_order vs ws) e in
      let same = canon_same v w values.0 in
      let rest = elements_canon_same vs ws values.1 in
      λ i. element (same i) (rest i)
  elements_canon_same vs ws e = cc

same_order : (v w : Tree) → canon v ≡ canon w → order v w ≡ Equal
same_order v w e = sym (order_of_canon v w) ∙ ap (order (canon v)) (sym e) ∙ tied_itself order_total (canon v)

pub equal_is_canon : (v w : Tree) → (order v w ≡ Equal) ↔ (canon v ≡ canon w)
equal_is_canon v w = (canon_same v w, same_order v w)

pub same_key : (v w : Option Tree) → key_order (key_at v) (key_at w) ≡ Equal → key_at v ≡ key_at w
same_key None None e = refl
same_key None (Some w) e = absurd (cc (no_class (canon w)))
same_key (Some v) None e = absurd (cc (no_class_back (canon v)))
same_key (Some v) (Some w) e = ap value (canon_same v w (sym (order_of_canon v w) ∙ e))

pub lower_class : (v w : Tree) → class v < class w → order v w ≡ Less
lower_class v w h = sym (classes_first v w) ∙ ap (λ c. ordering_then c (order v w)) (sym (nat_cmp_is (class v) (class w) Less h))
