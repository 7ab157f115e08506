-- Documents and paths of worked examples.
use Rattle.std.specs.Prelude.{ℕ, List, [], ◌∷◌, codes}
use Rattle.dv_value.specs.Tree.{Tree, Field}
use Rattle.dv_value.specs.Short.{int, one, doc, list}

-- {b: n}, and {a: [{b: 1}, {b: 2}]}
abbrev pub b_alone : ℕ → Tree
b_alone n = doc (one (codes "b") (int n))

abbrev pub two_in_a_list : List Field
two_in_a_list = one (codes "a") (list (b_alone 1 ∷ b_alone 2 ∷ []))

-- [1], and {a: [[1]]}
abbrev pub one_in_a_list : Tree
one_in_a_list = list (int 1 ∷ [])

abbrev pub list_in_a_list : List Field
list_in_a_list = one (codes "a") (list (one_in_a_list ∷ []))

-- the path "a.b"
abbrev pub a_then_b : List (List ℕ)
a_then_b = codes "a" ∷ codes "b" ∷ []
