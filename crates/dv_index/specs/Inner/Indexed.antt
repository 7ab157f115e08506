-- Of `Indexed`, what only bodies and proofs need.
use Rattle.std.specs.Prelude.{◌≡◌, ℕ, Bool, false, List, refl}
use Rattle.std.specs.List.{list_any}
use Rattle.std.specs.Str.{bytes_eq}
use Rattle.std.specs.Coded.{Coded, coded_ℕ, coded_list, coded×, code_by}
use Rattle.dv_value.specs.Tree.{Field}
use Rattle.dv_value.specs.Inner.TreeCode.{coded_tree}
use Rattle.dv_keyed.specs.Index.{IndexForm}
use Rattle.dv_keyed.specs.Inner.Index.{coded_form}
use Rattle.dv_index.specs.Indexed.{IndexedTree}
use Rattle.dv_index.specs.Unique.{are_broken, clashes}

-- with other documents, and the same indexes
abbrev pub with_documents : List (List Field) → IndexedTree → IndexedTree
with_documents documents c = record { documents = documents; indexes = c.indexes }

-- with other indexes, and the same documents
abbrev pub with_indexes : List IndexForm → IndexedTree → IndexedTree
with_indexes indexes c = record { documents = c.documents; indexes = indexes }

-- whether an index has the name
abbrev pub has_index_named : List ℕ → List IndexForm → Bool
has_index_named name indexes = list_any (λ x. bytes_eq x.name name) indexes

-- an index of a name on a path
abbrev pub index_on : List ℕ → List (List ℕ) → Bool → IndexForm
index_on name path unique = record { name = name; path = path; unique = unique }

-- no unique index is broken
abbrev pub AreUnbroken : List IndexForm → List (List Field) → Type 0
AreUnbroken indexes documents = are_broken indexes documents ≡ false

-- if no index was broken before a document was inserted or replaced another, and it does not clash, none is broken afterwards
abbrev pub BreaksNone : List IndexForm → List Field → List (List Field) → List (List Field) → Type 0
BreaksNone indexes d before after = AreUnbroken indexes before → clashes indexes d before ≡ false → AreUnbroken indexes after

-- one to one as a ghost value
abbrev pub coded_indexed : Coded IndexedTree
coded_indexed =
    code_by (List (List Field) × List IndexForm) (coded× (coded_list (coded_list (coded× (coded_list coded_ℕ) coded_tree))) (coded_list coded_form)) (λ c. (c.documents, c.indexes)) (λ p. record { documents = p.0; indexes = p.1 }) (λ _. refl)
