-- What is left of fields and elements, one after the other.
use Rattle.std.proofs.Common.{◌≡◌, ◌∙◌, ap, sym, refl, Bool, false, ◌||◌, List, [], ◌∷◌, ◌++◌, ℕ, Some, None, append_assoc, append-nil}
use Rattle.std.specs.Str.{bytes_eq}
use Rattle.std.proofs.lemmas.Bool.{or_parts}
use Rattle.dv_value.specs.Tree.{Tree, Field, fields_of, list_of_fields, elements_of, list_of_elements}
use Rattle.dv_value.specs.Names.{has_name, has_zero, AreNamed}
use Rattle.dv_value.specs.Inner.ByteLaws.{bytes_eq-symmetric}
use Rattle.dv_candidates.specs.Candidates.{Candidate}
use Rattle.dv_row.specs.Expressions.{with_field_behind}
use Rattle.dv_row.specs.Projecting.{paths_behind, with_left, with_element_left, left_of_value, left_inside, fields_left, elements_left, row_left}

-- a field alone, if there is a value
abbrev alone : List ℕ → Candidate → List Field
alone name None = []
alone name (Some v) = (name, v) ∷ []

module _ (keeps : Bool) (paths : List (List (List ℕ))) where
  with-left_alone : (name : List ℕ) (c : Candidate) (fs : List Field) → list_of_fields (with_left name c (fields_of fs)) ≡ alone name c ++ list_of_fields (fields_of fs)
  with-left_alone name None fs = refl
  with-left_alone name (Some v) fs = refl

  row-left_first : (name : List ℕ) (c : Candidate) (d : List Field) → list_of_fields (with_left name c (fields_left keeps paths (fields_of d))) ≡ alone name c ++ row_left keeps paths d
  row-left_first name None d = refl
  row-left_first name (Some v) d = refl

  pub row-left_append : (d e : List Field) → row_left keeps paths (d ++ e) ≡ row_left keeps paths d ++ row_left keeps paths e
  unfolding fields_left
  row-left_append [] e = refl
  row-left_append (f ∷ d) e =
      row-left_first f.0 (left_of_value keeps (paths_behind f.0 paths) f.1) (d ++ e) ∙ ap (λ l. alone f.0 (left_of_value keeps (paths_behind f.0 paths) f.1) ++ l) (row-left_append d e) ∙ sym (append_assoc (alone f.0 (left_of_value keeps (paths_behind f.0 paths) f.1)) (row_left keeps paths d) (row_left keeps paths e)) ∙ ap (λ l. l ++ row_left keeps paths e) (sym (row-left_first f.0 (left_of_value keeps (paths_behind f.0 paths) f.1) d))

  row-left_one : (name : List ℕ) (v : Tree) → row_left keeps paths ((name, v) ∷ []) ≡ alone name (left_of_value keeps (paths_behind name paths) v)
  unfolding fields_left
  row-left_one name v = row-left_first name (left_of_value keeps (paths_behind name paths) v) [] ∙ append-nil (alone name (left_of_value keeps (paths_behind name paths) v))

  -- no name is added
  names-left : (name : List ℕ) (d : List Field) → has_name name d ≡ false → has_name name (row_left keeps paths d) ≡ false
  unfolding fields_left
  names-left name [] h = refl
  names-left name (f ∷ d) h = ap (has_name name) (row-left_first f.0 (left_of_value keeps (paths_behind f.0 paths) f.1) d) ∙ among f.0 (left_of_value keeps (paths_behind f.0 paths) f.1) (row_left keeps paths d) (or_parts (bytes_eq name f.0) (has_name name d) h).0 (names-left name d (or_parts (bytes_eq name f.0) (has_name name d) h).1)
    where
      among : (n : List ℕ) (c : Candidate) (fs : List Field) → bytes_eq name n ≡ false → has_name name fs ≡ false → has_name name (alone n c ++ fs) ≡ false
      among n None fs e g = g
      among n (Some v) fs e g = ap (λ b. b || has_name name fs) e ∙ g

not-among : (n : List ℕ) (fs : List Field) (f : Field) (rest : List Field) → has_name n (fs ++ f ∷ rest) ≡ false → bytes_eq n f.0 ≡ false
not-among n [] f rest h = (or_parts (bytes_eq n f.0) (has_name n rest) h).0
not-among n (g ∷ fs) f rest h = not-among n fs f rest (or_parts (bytes_eq n g.0) (has_name n (fs ++ f ∷ rest)) h).1

-- a field's name is none of those before it
new-name : (fs : List Field) (f : Field) (rest : List Field) → AreNamed (fs ++ f ∷ rest) → (has_zero f.0 ≡ false) × (has_name f.0 fs ≡ false)
new-name [] f rest named = (named.0, refl)
new-name (g ∷ fs) f rest named =
    let new = new-name fs f rest named.2 in
    (new.0, ap (λ b. b || has_name f.0 fs) (bytes_eq-symmetric f.0 g.0 ∙ not-among g.0 fs f rest named.1) ∙ new.1)

with-field_new : (name : List ℕ) (c : Candidate) (fs : List Field) → has_zero name ≡ false → has_name name fs ≡ false → with_field_behind name c fs ≡ fs ++ alone name c
with-field_new name None fs e h = sym (append-nil fs)
with-field_new name (Some v) fs e h = rw (e, h) refl

-- one more field, as it is
pub copied-more : (fs : List Field) (f : Field) (rest : List Field) → AreNamed (fs ++ f ∷ rest) → with_field_behind f.0 (Some f.1) fs ≡ fs ++ f ∷ []
copied-more fs f rest named =
    let new = new-name fs f rest named in
    with-field_new f.0 (Some f.1) fs new.0 new.1

-- one more field
pub row-left_more : (keeps : Bool) (paths : List (List (List ℕ))) (fs : List Field) (f : Field) (rest : List Field) → AreNamed (fs ++ f ∷ rest)
    → with_field_behind f.0 (left_of_value keeps (paths_behind f.0 paths) f.1) (row_left keeps paths fs) ≡ row_left keeps paths (fs ++ f ∷ [])
row-left_more keeps paths fs f rest named =
    let new = new-name fs f rest named in
    with-field_new f.0 (left_of_value keeps (paths_behind f.0 paths) f.1) (row_left keeps paths fs) new.0 (names-left keeps paths f.0 fs new.1) ∙ ap (λ l. row_left keeps paths fs ++ l) (sym (row-left_one keeps paths f.0 f.1)) ∙ sym (row-left_append keeps paths fs (f ∷ []))

-- ---- elements

abbrev pub single : Candidate → List Tree
single None = []
single (Some v) = v ∷ []

module _ (keeps : Bool) (paths : List (List (List ℕ))) where
  first-left : (c : Candidate) (vs : List Tree) → list_of_elements (with_element_left c (elements_left keeps paths (elements_of vs))) ≡ single c ++ list_of_elements (elements_left keeps paths (elements_of vs))
  first-left None vs = refl
  first-left (Some v) vs = refl

  pub elements-left_more : (vs : List Tree) (v : Tree) → list_of_elements (elements_left keeps paths (elements_of (vs ++ v ∷ []))) ≡ list_of_elements (elements_left keeps paths (elements_of vs)) ++ single (left_inside keeps paths v)
  unfolding elements_left
  elements-left_more [] v = first-left (left_inside keeps paths v) [] ∙ append-nil (single (left_inside keeps paths v))
  elements-left_more (w ∷ vs) v = first-left (left_inside keeps paths w) (vs ++ v ∷ []) ∙ ap (λ l. single (left_inside keeps paths w) ++ l) (elements-left_more vs v) ∙ sym (append_assoc (single (left_inside keeps paths w)) (list_of_elements (elements_left keeps paths (elements_of vs))) (single (left_inside keeps paths v))) ∙ ap (λ l. l ++ single (left_inside keeps paths v)) (sym (first-left (left_inside keeps paths w) vs))
