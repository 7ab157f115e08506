-- What is left of a value depends on which ways lead on from it, and not on their order.
use Rattle.std.proofs.Common.{◌≡◌, ◌∙◌, ap, ap₂, sym, refl, Bool, true, false, ◌&&◌, ◌||◌, List, [], ◌∷◌, ℕ, Some, if◌then◌else◌}
use Rattle.std.specs.List.{list_any}
use Rattle.std.specs.Str.{bytes_eq}
use Rattle.dv_value.specs.Tree.{Tree, document, array, Fields, no_fields, field, Elements, no_elements, element, fields_of, list_of_fields}
use Rattle.dv_candidates.specs.Candidates.{Candidate}
use Rattle.dv_row.specs.Projecting.{paths_behind, ends, if_it, with_left, with_element_left, left_at, left_inside, fields_left, elements_left, row_left}
use Rattle.dv_row.specs.Row.{Row}
use Rattle.dv_row.specs.Inner.Ways.{AreSame}

abbrev Way : Type 0
Way = List (List ℕ)

-- a way that leads through the name to one that passes the test
abbrev through : List ℕ → (Way → Bool) → Way → Bool
through name test [] = false
through name test (n ∷ ns) = bytes_eq name n && test ns

any-behind : (name : List ℕ) (test : Way → Bool) (ws : List Way) → list_any test (paths_behind name ws) ≡ list_any (through name test) ws
any-behind name test [] = refl
any-behind name test ([] ∷ ws) = any-behind name test ws
any-behind name test ((n ∷ ns) ∷ ws) = go (bytes_eq name n) (any-behind name test ws)
  where
    go : (b : Bool) → list_any test (paths_behind name ws) ≡ list_any (through name test) ws → list_any test (if b then ns ∷ paths_behind name ws else paths_behind name ws) ≡ ((b && test ns) || list_any (through name test) ws)
    go true e = ap (λ c. test ns || c) e
    go false e = e

same-behind : (xs ys : List Way) → AreSame xs ys → (name : List ℕ) → AreSame (paths_behind name xs) (paths_behind name ys)
same-behind xs ys same name test = any-behind name test xs ∙ same (through name test) ∙ sym (any-behind name test ys)

same-at : (keeps : Bool) (xs ys : List Way) (v : Tree) (a b : Candidate) → AreSame xs ys → a ≡ b → left_at keeps xs v a ≡ left_at keeps ys v b
same-at keeps [] [] v a b same e = refl
same-at keeps [] (y ∷ ys) v a b same e = let no : false ≡ true = same (λ w. true) in absurd cc
same-at keeps (x ∷ xs) [] v a b same e = let no : true ≡ false = same (λ w. true) in absurd cc
same-at keeps (x ∷ xs) (y ∷ ys) v a b same e = ap₂ (λ t c. if t then if_it keeps v else c) (same ends) e

mutual
  unfolding left_inside fields_left elements_left

  same-inside : (keeps : Bool) (xs ys : List Way) → AreSame xs ys → (v : Tree) → left_inside keeps xs v ≡ left_inside keeps ys v
  same-inside keeps xs ys same (document fs) = ap (λ gs. Some (document gs)) (same-fields keeps xs ys same fs)
  same-inside keeps xs ys same (array vs) = ap (λ ws. Some (array ws)) (same-elements keeps xs ys same vs)
  same-inside keeps xs ys same v = refl

  same-fields : (keeps : Bool) (xs ys : List Way) → AreSame xs ys → (fs : Fields) → fields_left keeps xs fs ≡ fields_left keeps ys fs
  same-fields keeps xs ys same no_fields = refl
  same-fields keeps xs ys same (field name v fs) =
      let inner = same-behind xs ys same name in
      ap₂ (with_left name) (same-at keeps (paths_behind name xs) (paths_behind name ys) v (left_inside keeps (paths_behind name xs) v) (left_inside keeps (paths_behind name ys) v) inner (same-inside keeps (paths_behind name xs) (paths_behind name ys) inner v)) (same-fields keeps xs ys same fs)

  same-elements : (keeps : Bool) (xs ys : List Way) → AreSame xs ys → (vs : Elements) → elements_left keeps xs vs ≡ elements_left keeps ys vs
  same-elements keeps xs ys same no_elements = refl
  same-elements keeps xs ys same (element v vs) = ap₂ with_element_left (same-inside keeps xs ys same v) (same-elements keeps xs ys same vs)

pub same-row : (keeps : Bool) (xs ys : List Way) (d : Row) → AreSame xs ys → row_left keeps xs d ≡ row_left keeps ys d
same-row keeps xs ys d same = ap list_of_fields (same-fields keeps xs ys same (fields_of d))
