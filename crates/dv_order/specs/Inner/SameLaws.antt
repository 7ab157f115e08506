-- Values that are the same by each part are the same.
use Rattle.std.specs.Prelude.{◌↔◌}
use Rattle.std.proofs.Common.{◌≡◌, ◌∙◌, ap, ap₂, sym, refl, List, ℕ, ℤ, Bool, true, false, ◌&&◌, ◌==◌, arith}
use Rattle.std.specs.Ordering.{int_eq}
use Rattle.std.specs.Str.{bytes_eq}
use Rattle.std.proofs.lemmas.Bool.Decides.{Decides-int_eq, nat_tests}
use Rattle.std.proofs.lemmas.Slice.Eq.{bytes_eq-Decides}
use Rattle.std.proofs.lemmas.Bool.{and_parts}
use Rattle.dv_value.specs.Tree.{Tree, int32, int64, string, document, array, boolean, binary, object_id, date, null, timestamp, min_key, max_key, Fields, no_fields, field, Elements, no_elements, element, Field, fields_of, list_of_fields}
use Rattle.dv_value.specs.Inner.TreeLaws.{fields_again}
use Rattle.dv_order.specs.Same.{agree, is_same, same_fields, same_elements}

agreed : (a b : Bool) → agree a b ≡ true → a ≡ b
agreed true true e = refl
agreed true false e = cc
agreed false true e = cc
agreed false false e = refl

bytes : (s t : List ℕ) → bytes_eq s t ≡ true → s ≡ t
bytes s t e = (bytes_eq-Decides s t).0 e

equal : (m n : ℕ) → (m == n) ≡ true → m ≡ n
equal m n e = grind (arith, nat_tests)

mutual
  pub same-is : (v w : Tree) → is_same v w ≡ true → v ≡ w
  same-is (int32 m) (int32 n) e = ap int32 ((Decides-int_eq m n).0 e)
  same-is (int64 m) (int64 n) e = ap int64 ((Decides-int_eq m n).0 e)
  same-is (string s) (string t) e = ap string (bytes s t e)
  same-is (document fs) (document gs) e = ap document (same-fields fs gs e)
  same-is (array vs) (array ws) e = ap array (same-elements vs ws e)
  same-is (boolean a) (boolean b) e = ap boolean (agreed a b e)
  same-is (binary s bs) (binary t cs) e = ap₂ binary (equal s t (and_parts _ _ e).0) (bytes bs cs (and_parts _ _ e).1)
  same-is (object_id a) (object_id b) e = ap object_id (bytes a b e)
  same-is (date m) (date n) e = ap date ((Decides-int_eq m n).0 e)
  same-is null null e = refl
  same-is (timestamp m) (timestamp n) e = ap timestamp (equal m n e)
  same-is min_key min_key e = refl
  same-is max_key max_key e = refl
  same-is v w e = cc

  pub same-fields : (fs gs : Fields) → same_fields fs gs ≡ true → fs ≡ gs
  same-fields no_fields no_fields e = refl
  same-fields (field a v fs) (field b w gs) e =
      let front = (and_parts (bytes_eq a b && is_same v w) (same_fields fs gs) e).0 in
      λ i. field (bytes a b (and_parts _ _ front).0 i) (same-is v w (and_parts _ _ front).1 i) (same-fields fs gs (and_parts _ _ e).1 i)
  same-fields fs gs e = cc

  same-elements : (vs ws : Elements) → same_elements vs ws ≡ true → vs ≡ ws
  same-elements no_elements no_elements e = refl
  same-elements (element v vs) (element w ws) e = ap₂ element (same-is v w (and_parts _ _ e).0) (same-elements vs ws (and_parts _ _ e).1)
  same-elements vs ws e = cc

same-int : (n : ℤ) → int_eq n n ≡ true
same-int n = (Decides-int_eq n n).1 refl

same-bytes : (s : List ℕ) → bytes_eq s s ≡ true
same-bytes s = (bytes_eq-Decides s s).1 refl

same-nat : (n : ℕ) → (n == n) ≡ true
same-nat n = grind (arith, nat_tests)

same-bool : (b : Bool) → agree b b ≡ true
same-bool true = refl
same-bool false = refl

and-both : (b c : Bool) → b ≡ true → c ≡ true → (b && c) ≡ true
and-both b c h g = ap₂ (λ x y. x && y) h g

mutual
  pub same-itself : (v : Tree) → is_same v v ≡ true
  same-itself (int32 n) = same-int n
  same-itself (int64 n) = same-int n
  same-itself (string s) = same-bytes s
  same-itself (document fs) = fields-itself fs
  same-itself (array vs) = elements-itself vs
  same-itself (boolean b) = same-bool b
  same-itself (binary s bs) = and-both _ _ (same-nat s) (same-bytes bs)
  same-itself (object_id a) = same-bytes a
  same-itself (date n) = same-int n
  same-itself null = refl
  same-itself (timestamp n) = same-nat n
  same-itself min_key = refl
  same-itself max_key = refl

  pub fields-itself : (fs : Fields) → same_fields fs fs ≡ true
  fields-itself no_fields = refl
  fields-itself (field a v fs) = and-both _ _ (and-both _ _ (same-bytes a) (same-itself v)) (fields-itself fs)

  elements-itself : (vs : Elements) → same_elements vs vs ≡ true
  elements-itself no_elements = refl
  elements-itself (element v vs) = and-both _ _ (same-itself v) (elements-itself vs)

pub same_values : (v w : Tree) → (is_same v w ≡ true) ↔ (v ≡ w)
same_values v w = (same-is v w, λ e. ap (is_same v) (sym e) ∙ same-itself v)

pub same_documents : (d e : List Field) → (same_fields (fields_of d) (fields_of e) ≡ true) ↔ (d ≡ e)
same_documents d e = (λ h. sym (fields_again d) ∙ ap list_of_fields (same-fields (fields_of d) (fields_of e) h) ∙ fields_again e, λ h. ap (λ fs. same_fields (fields_of d) (fields_of fs)) (sym h) ∙ fields-itself (fields_of d))
