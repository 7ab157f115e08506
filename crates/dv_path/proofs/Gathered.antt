-- What an expression gathers, element by element.
use Rattle.std.proofs.Common.{◌≡◌, List, [], ◌∷◌, ◌++◌, map, Option, Some, ℕ, ◌+◌, ◌<◌, length, take, drop, get_or, ap, sym, ◌∙◌, arith, option_and_then}
use Rattle.std.specs.List.{filter_map}
use Rattle.std.proofs.lemmas.List.{map-append}
use Rattle.std.proofs.lemmas.List.Elements.{filter_map-append}
use Rattle.dv_value.specs.Names.{value_under}
use Rattle.dv_value.specs.Tree.{Tree, array, Field, elements_of}
use Rattle.dv_value.specs.View.{tree}
use Rattle.dv_value.specs.declared.value.Value.{Value}
use Rattle.dv_value.specs.Inner.TreeLaws.{fields_again, elements_again}
use Rattle.dv_value.specs.Inner.ListLaws.{take-read}
use Rattle.dv_path.specs.Expression.{component_entered, expression, expr}

-- one more item of a list that a loop visits
pub filter_more : {X Y Z : Type 0} (f : Y → Option Z) (view : X → Y) (xs : List X) (i : ℕ) (x : X) → i < length xs → x ≡ get_or xs i x → filter_map f (map view (take (i + 1) xs)) ≡ filter_map f (map view (take i xs)) ++ filter_map f (view x ∷ [])
filter_more f view xs i x within is =
    ap (λ ys. filter_map f (map view ys)) (take-read xs i x within is) ∙ ap (filter_map f) (map-append view (take i xs) (x ∷ [])) ∙ filter_map-append f (map view (take i xs)) (view x ∷ [])

pub filter-one : {Y Z : Type 0} (f : Y → Option Z) (y : Y) (o : Option Z) → f y ≡ o → filter_map f (y ∷ []) ≡ filter_map (λ p. p) (o ∷ [])
filter-one f y o e = ap (λ p. filter_map (λ q. q) (p ∷ [])) e

pub expr-first : (names : List (List ℕ)) (fs : List Field) (name : List ℕ) → 0 < length names → name ≡ get_or names 0 name → option_and_then (expression (drop 1 names)) (value_under name fs) ≡ expr fs names
unfolding expr
expr-first [] fs name some is = absurd (omega arith)
expr-first (n ∷ names) fs name some is = ap (λ m. option_and_then (expression names) (value_under m fs)) is ∙ ap (λ gs. option_and_then (expression names) (value_under n gs)) (sym (fields_again fs))

-- one component further inside a value
module _ (path rest : List (List ℕ)) (name : List ℕ) (v : Value) (is : path ≡ name ∷ rest) where
  pub expression-document : (d : List Field) → v ≡ Value.Doc d → expression path (tree v) ≡ option_and_then (expression rest) (value_under name d)
  expression-document d e = ap (λ p. expression p (tree v)) is ∙ ap (λ w. expression (name ∷ rest) (tree w)) e ∙ ap (λ fs. option_and_then (expression rest) (value_under name fs)) (fields_again d)

  pub expression-array : (l : List Tree) → v ≡ Value.Array l → expression path (tree v) ≡ Some (array (elements_of (filter_map (component_entered (expression rest) name) l)))
  expression-array l e = ap (λ p. expression p (tree v)) is ∙ ap (λ w. expression (name ∷ rest) (tree w)) e ∙ ap (λ vs. Some (array (elements_of (filter_map (component_entered (expression rest) name) vs)))) (elements_again l)
