-- The order of values is total. Down to each depth it is, being made of std's parts; and below its own depth a value has
-- nothing left to compare.
use Rattle.std.specs.Prelude.{◌≡◌, ℕ, ℤ, pos, zero, suc, ◌<◌, Bool, true, false, List, [], ◌∷◌, length, refl}
use Rattle.std.proofs.Common.{ap, sym, ◌∙◌, arith}
use Rattle.std.specs.declared.cmp.Ordering.{Ordering}
use Rattle.std.specs.declared.cmp.Ordering.TheVariants.{Less, Equal, Greater}
use Rattle.std.specs.Ordering.{ordering_then, nat_cmp, int_cmp, bool_cmp, is_ne, on, then_cmp}
use Rattle.std.specs.Cmp.{IsTotalOrder, nat_cmp_total, int_cmp_total, bool_cmp_total, on_total, then_total}
use Rattle.std.specs.Cmp.Derive.Recursive.{limit_total}
use Rattle.std.specs.Cmp.Lexicographic.{slice_cmp, lists_total, nat_list_cmp_total}
use Rattle.dv_value.specs.Tree.{Tree, int32, int64, string, document, array, boolean, binary, object_id, date, null, timestamp, min_key, max_key, Fields, no_fields, field, Elements, no_elements, element, Field, list_of_fields, list_of_elements}
use Rattle.dv_value.specs.Inner.Tree.{weight, fields_weight, elements_weight}
use Rattle.dv_order.specs.Order.{class, fields_order, elements_order, order}

-- what a value is compared by within its class, and something fixed for the others
abbrev number : Tree → ℤ
number (int32 n) = n
number (int64 n) = n
number (date n) = n
number v = pos 0

abbrev natural : Tree → ℕ
natural (binary subtype bytes) = length bytes
natural (timestamp n) = n
natural v = 0

abbrev text : Tree → List ℕ
text (string s) = s
text (binary subtype bytes) = subtype ∷ bytes
text (object_id id) = id
text v = []

abbrev truth : Tree → Bool
truth (boolean b) = b
truth v = false

abbrev pairs : Tree → List Field
pairs (document fs) = list_of_fields fs
pairs v = []

abbrev items : Tree → List Tree
items (array vs) = list_of_elements vs
items v = []

-- the order of two fields, where R is that of values
abbrev pair_cmp : (Tree → Tree → Ordering) → Field → Field → Ordering
pair_cmp R = then_cmp (on (λ f. class f.1) nat_cmp) (then_cmp (on (λ f. f.0) (slice_cmp nat_cmp)) (on (λ f. f.1) R))

-- the order of values by their first n levels
abbrev order_to : ℕ → Tree → Tree → Ordering
order_to zero = on (λ v. 0) nat_cmp
order_to (suc n) =
    then_cmp (on class nat_cmp)
    (then_cmp (on number int_cmp)
    (then_cmp (on natural nat_cmp)
    (then_cmp (on text (slice_cmp nat_cmp))
    (then_cmp (on truth bool_cmp)
    (then_cmp (on pairs (slice_cmp (pair_cmp (order_to n)))) (on items (slice_cmp (order_to n))))))))

pair_cmp_total : {R : Tree → Tree → Ordering} → IsTotalOrder R → IsTotalOrder (pair_cmp R)
pair_cmp_total o = then_total (on_total (λ f. class f.1) nat_cmp_total) (then_total (on_total (λ f. f.0) nat_list_cmp_total) (on_total (λ f. f.1) o))

order_to_total : (n : ℕ) → IsTotalOrder (order_to n)
order_to_total zero = on_total (λ v. 0) nat_cmp_total
order_to_total (suc n) =
    then_total (on_total class nat_cmp_total)
    (then_total (on_total number int_cmp_total)
    (then_total (on_total natural nat_cmp_total)
    (then_total (on_total text nat_list_cmp_total)
    (then_total (on_total truth bool_cmp_total)
    (then_total (on_total pairs (lists_total (pair_cmp_total (order_to_total n)))) (on_total items (lists_total (order_to_total n))))))))

pub then_Equal : (r : Ordering) → ordering_then r Equal ≡ r
then_Equal Less = refl
then_Equal Equal = refl
then_Equal Greater = refl

pub then_assoc : (a b c : Ordering) → ordering_then (ordering_then a b) c ≡ ordering_then a (ordering_then b c)
then_assoc Less b c = refl
then_assoc Equal b c = refl
then_assoc Greater b c = refl

pub unequal_decides : (a b : Ordering) → is_ne a ≡ true → ordering_then a b ≡ a
unequal_decides Less b h = refl
unequal_decides Equal b h = cc
unequal_decides Greater b h = refl

-- below a value's weight nothing is left of it
mutual
  order_to_is : (n : ℕ) (v w : Tree) → weight v < n → order_to n v w ≡ order v w
  order_to_is zero v w h = absurd (omega arith)
  order_to_is (suc n) (document fs) (document gs) h = then_Equal _ ∙ pairs_to_is n fs gs (omega arith)
  order_to_is (suc n) (array vs) (array ws) h = items_to_is n vs ws (omega arith)
  order_to_is (suc n) (string s) (string t) h = then_Equal _
  order_to_is (suc n) (boolean a) (boolean b) h = then_Equal _
  order_to_is (suc n) (binary s bs) (binary t cs) h =
      ap (ordering_then (nat_cmp (length bs) (length cs))) (then_Equal (ordering_then (nat_cmp s t) (slice_cmp nat_cmp bs cs)))
  order_to_is (suc n) (object_id a) (object_id b) h = then_Equal _
  order_to_is (suc n) (date a) (date b) h = then_Equal _
  order_to_is (suc n) (timestamp a) (timestamp b) h = then_Equal _
  order_to_is (suc n) (int32 a) (int32 b) h = then_Equal _
  order_to_is (suc n) (int32 a) (int64 b) h = then_Equal _
  order_to_is (suc n) (int64 a) (int32 b) h = then_Equal _
  order_to_is (suc n) (int64 a) (int64 b) h = then_Equal _
  order_to_is (suc n) null null h = refl
  order_to_is (suc n) min_key min_key h = refl
  order_to_is (suc n) max_key max_key h = refl
  order_to_is (suc n) v w h = refl

  pairs_to_is : (n : ℕ) (fs gs : Fields) → fields_weight fs < n → slice_cmp (pair_cmp (order_to n)) (list_of_fields fs) (list_of_fields gs) ≡ fields_order fs gs
  pairs_to_is n no_fields no_fields h = refl
  pairs_to_is n no_fields (field b w gs) h = refl
  pairs_to_is n (field a v fs) no_fields h = refl
  pairs_to_is n (field a v fs) (field b w gs) h =
      let first = order_to_is n v w (omega arith) in
      let rest = pairs_to_is n fs gs (omega arith) in
      let classes = nat_cmp (class v) (class w) in
      let names = slice_cmp nat_cmp a b in
      (λ i. ordering_then (ordering_then classes (ordering_then names (first i))) (rest i))
      ∙ then_assoc classes (ordering_then names (order v w)) (fields_order fs gs)
      ∙ ap (ordering_then classes) (then_assoc names (order v w) (fields_order fs gs))

  items_to_is : (n : ℕ) (vs ws : Elements) → elements_weight vs < n → slice_cmp (order_to n) (list_of_elements vs) (list_of_elements ws) ≡ elements_order vs ws
  items_to_is n no_elements no_elements h = refl
  items_to_is n no_elements (element w ws) h = refl
  items_to_is n (element v vs) no_elements h = refl
  items_to_is n (element v vs) (element w ws) h =
      let first = order_to_is n v w (omega arith) in
      let rest = items_to_is n vs ws (omega arith) in
      λ i. ordering_then (first i) (rest i)

pub order_total : IsTotalOrder order
order_total = limit_total weight order_to order (λ n v w h k. order_to_is n v w h) order_to_total

then_twice : (a b : Ordering) → ordering_then a (ordering_then a b) ≡ ordering_then a b
then_twice Less b = refl
then_twice Equal b = refl
then_twice Greater b = refl

-- to compare the classes first changes nothing
pub classes_first : (v w : Tree) → ordering_then (nat_cmp (class v) (class w)) (order v w) ≡ order v w
classes_first v w =
    let same = order_to_is (suc (weight v)) v w (omega arith) in
    ap (ordering_then (nat_cmp (class v) (class w))) (sym same) ∙ then_twice (nat_cmp (class v) (class w)) _ ∙ same
