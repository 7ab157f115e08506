-- A tree as a ghost value, one to one: so a proof can tell two trees apart.
use Rattle.std.specs.Prelude.{◌≡◌, ℕ, List, refl}
use Rattle.std.proofs.Common.{ap, ap₂}
use base.Stored.{Gv, gnum, gcons, gnil, Coded, coded_ℤ, coded_ℕ, coded_bool, coded_list}
use Rattle.dv_value.specs.Tree.{Tree, int32, int64, string, document, array, boolean, binary, object_id, date, null, timestamp, min_key, max_key, Fields, no_fields, field, Elements, no_elements, element}

abbrev coded_bytes : Coded (List ℕ)
coded_bytes = coded_list coded_ℕ

abbrev mutual
  pub code_tree : Tree → Gv
  code_tree (int32 n) = gcons (gnum 0) (coded_ℤ.code n)
  code_tree (int64 n) = gcons (gnum 1) (coded_ℤ.code n)
  code_tree (string s) = gcons (gnum 2) (coded_bytes.code s)
  code_tree (document fs) = gcons (gnum 3) (code_fields fs)
  code_tree (array vs) = gcons (gnum 4) (code_elements vs)
  code_tree (boolean b) = gcons (gnum 5) (coded_bool.code b)
  code_tree (binary subtype bytes) = gcons (gnum 6) (gcons (coded_ℕ.code subtype) (coded_bytes.code bytes))
  code_tree (object_id id) = gcons (gnum 7) (coded_bytes.code id)
  code_tree (date n) = gcons (gnum 8) (coded_ℤ.code n)
  code_tree null = gcons (gnum 9) gnil
  code_tree (timestamp n) = gcons (gnum 10) (coded_ℕ.code n)
  code_tree min_key = gcons (gnum 11) gnil
  code_tree max_key = gcons (gnum 12) gnil

  pub code_fields : Fields → Gv
  code_fields no_fields = gnil
  code_fields (field name value fs) = gcons (coded_bytes.code name) (gcons (code_tree value) (code_fields fs))

  pub code_elements : Elements → Gv
  code_elements no_elements = gnil
  code_elements (element v vs) = gcons (code_tree v) (code_elements vs)

same_field : (name name' : List ℕ) (value value' : Tree) (fs fs' : Fields) → name ≡ name' → value ≡ value' → fs ≡ fs' → field name value fs ≡ field name' value' fs'
same_field name name' value value' fs fs' p q r = cc

same_element : (v v' : Tree) (vs vs' : Elements) → v ≡ v' → vs ≡ vs' → element v vs ≡ element v' vs'
same_element v v' vs vs' p q = cc

mutual
  pub code_tree_inj : (x y : Tree) → code_tree x ≡ code_tree y → x ≡ y
  code_tree_inj (int32 m) (int32 n) p = let e : coded_ℤ.code m ≡ coded_ℤ.code n = cc in ap int32 (coded_ℤ.inj m n e)
  code_tree_inj (int64 m) (int64 n) p = let e : coded_ℤ.code m ≡ coded_ℤ.code n = cc in ap int64 (coded_ℤ.inj m n e)
  code_tree_inj (string s) (string t) p = let e : coded_bytes.code s ≡ coded_bytes.code t = cc in ap string (coded_bytes.inj s t e)
  code_tree_inj (document fs) (document gs) p = let e : code_fields fs ≡ code_fields gs = cc in ap document (code_fields_inj fs gs e)
  code_tree_inj (array vs) (array ws) p = let e : code_elements vs ≡ code_elements ws = cc in ap array (code_elements_inj vs ws e)
  code_tree_inj (boolean a) (boolean b) p = let e : coded_bool.code a ≡ coded_bool.code b = cc in ap boolean (coded_bool.inj a b e)
  code_tree_inj (binary s bytes) (binary t bytes') p =
      let subtype : coded_ℕ.code s ≡ coded_ℕ.code t = cc in
      let e : coded_bytes.code bytes ≡ coded_bytes.code bytes' = cc in
      ap₂ binary (coded_ℕ.inj s t subtype) (coded_bytes.inj bytes bytes' e)
  code_tree_inj (object_id id) (object_id id') p = let e : coded_bytes.code id ≡ coded_bytes.code id' = cc in ap object_id (coded_bytes.inj id id' e)
  code_tree_inj (date m) (date n) p = let e : coded_ℤ.code m ≡ coded_ℤ.code n = cc in ap date (coded_ℤ.inj m n e)
  code_tree_inj null null p = refl
  code_tree_inj (timestamp m) (timestamp n) p = let e : coded_ℕ.code m ≡ coded_ℕ.code n = cc in ap timestamp (coded_ℕ.inj m n e)
  code_tree_inj min_key min_key p = refl
  code_tree_inj max_key max_key p = refl
  code_tree_inj x y p = cc

  pub code_fields_inj : (x y : Fields) → code_fields x ≡ code_fields y → x ≡ y
  code_fields_inj no_fields no_fields p = refl
  code_fields_inj (field a v fs) (field b w gs) p =
      let name : coded_bytes.code a ≡ coded_bytes.code b = cc in
      let value : code_tree v ≡ code_tree w = cc in
      let rest : code_fields fs ≡ code_fields gs = cc in
      same_field a b v w fs gs (coded_bytes.inj a b name) (code_tree_inj v w value) (code_fields_inj fs gs rest)
  code_fields_inj x y p = cc

  pub code_elements_inj : (x y : Elements) → code_elements x ≡ code_elements y → x ≡ y
  code_elements_inj no_elements no_elements p = refl
  code_elements_inj (element v vs) (element w ws) p =
      let value : code_tree v ≡ code_tree w = cc in
      let rest : code_elements vs ≡ code_elements ws = cc in
      same_element v w vs ws (code_tree_inj v w value) (code_elements_inj vs ws rest)
  code_elements_inj x y p = cc

abbrev pub coded_tree : Coded Tree
coded_tree = record { code = code_tree; inj = code_tree_inj }
