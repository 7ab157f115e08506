-- Worked examples: the result of a filter for a document, both as they are written.
use Rattle.std.specs.Prelude.{ℕ, Bool, List, [], ◌∷◌, Result, Ok, codes}
use Rattle.dv_value.specs.Short.{int, one, doc, list}
use Rattle.dv_value.specs.Tree.{Tree, Field, fields_of}
use Rattle.dv_candidates.specs.Inner.Examples.{b_alone}
use Rattle.dv_match.specs.declared.fault.FilterFault.{FilterFault}
use Rattle.dv_match.specs.Match.{matches}
use Rattle.dv_match.specs.Parsing.{filter_in}
use Rattle.dv_value.specs.Results.{◌>>=◌}

-- whether the document matches the filter, or the fault if it is no filter
abbrev pub answer : List Field → List Field → Result Bool FilterFault
answer filter d = filter_in (fields_of filter) >>= λ ms. Ok (matches ms d)

-- {a: v}, and as a filter {a: {operator: v}}
abbrev pub a_alone : Tree → List Field
a_alone v = one (codes "a") v

abbrev pub a_by : List ℕ → Tree → List Field
a_by operator v = a_alone (doc (one operator v))

-- {a: {b: 2}} and {a: [5]}
abbrev pub document_in_a : List Field
document_in_a = a_alone (b_alone 2)

abbrev pub number_in_a_list : List Field
number_in_a_list = a_alone (list (int 5 ∷ []))

-- {a: {$elemMatch: {b: {$gt: 1}}}} and {a: {$elemMatch: {$gt: 4}}}
abbrev pub some_element_with_b : List Field
some_element_with_b = a_by (codes "$elemMatch") (doc (one (codes "b") (doc (one (codes "$gt") (int 1)))))

abbrev pub some_element_above : List Field
some_element_above = a_by (codes "$elemMatch") (doc (one (codes "$gt") (int 4)))
