-- Paths through documents, component by component.
use Rattle.std.proofs.Common.{◌≡◌, ◌∙◌, ap, sym, refl, List, [], ◌∷◌, ℕ, Some, None, map}
use Rattle.dv_value.specs.Tree.{Tree, int32, int64, string, document, array, boolean, binary, object_id, date, null, timestamp, min_key, max_key, Fields, Field, list_of_fields, elements_of, list_of_elements}
use Rattle.dv_value.specs.View.{tree}
use Rattle.dv_value.specs.declared.value.Value.{Value}
use Rattle.dv_row.specs.declared.unwind.Unwind.{Unwind}
use Rattle.dv_value.specs.Names.{value_under}
use Rattle.dv_candidates.specs.Candidates.{Candidate}
use Rattle.dv_row.specs.Unwinding.{in_document, reached, set_through, rows_of_elements}

module _ (name : List ℕ) (d : List Field) where
  pub reached-none : (rest : List (List ℕ)) → value_under name d ≡ None → reached (name ∷ rest) d ≡ None
  reached-none [] e = e
  reached-none (next ∷ names) e = ap (in_document (reached (next ∷ names))) e

  pub reached-more : (rest : List (List ℕ)) (v : Candidate) → (rest ≡ [] → ⊥) → value_under name d ≡ v → reached (name ∷ rest) d ≡ in_document (reached rest) v
  reached-more [] v some e = absurd (some refl)
  reached-more (next ∷ names) v some e = ap (in_document (reached (next ∷ names))) e

-- what a path leads through is a document
pub gone-through : (look : List Field → Candidate) (c : Candidate) (w : Tree) → in_document look c ≡ Some w → (inner : Fields) × (c ≡ Some (document inner)) × (look (list_of_fields inner) ≡ Some w)
gone-through look (Some (document inner)) w there = (inner, refl, there)
gone-through look None w there = absurd cc
gone-through look (Some (int32 n)) w there = absurd cc
gone-through look (Some (int64 n)) w there = absurd cc
gone-through look (Some (string s)) w there = absurd cc
gone-through look (Some (array vs)) w there = absurd cc
gone-through look (Some (boolean b)) w there = absurd cc
gone-through look (Some (binary s bs)) w there = absurd cc
gone-through look (Some (object_id id)) w there = absurd cc
gone-through look (Some (date n)) w there = absurd cc
gone-through look (Some null) w there = absurd cc
gone-through look (Some (timestamp n)) w there = absurd cc
gone-through look (Some min_key) w there = absurd cc
gone-through look (Some max_key) w there = absurd cc

-- rows of elements, of which there are some
pub rows-of_some : (u : Unwind) (d : List Field) (es : List Value) (vs : List Tree) → map tree es ≡ vs → (es ≡ [] → ⊥) → rows_of_elements u d (elements_of vs) ≡ map (λ v. set_through u.path (Some (tree v)) d) es
rows-of_some u d [] vs seen some = absurd (some refl)
rows-of_some u d (e ∷ es) vs seen some =
    ap (λ l. rows_of_elements u d (elements_of l)) (sym seen) ∙ ap (λ l. set_through u.path (Some (tree e)) d ∷ l) (again es)
  where
    again : (es : List Value) → map (λ v. set_through u.path (Some v) d) (list_of_elements (elements_of (map tree es))) ≡ map (λ v. set_through u.path (Some (tree v)) d) es
    again [] = refl
    again (e ∷ es) = ap (λ l. set_through u.path (Some (tree e)) d ∷ l) (again es)
