-- Worked examples: which index answers a find, how many documents it covers, and which documents break a unique index. Filters and
-- documents are as they are written.
use Rattle.std.specs.Prelude.{ℕ, Bool, true, false, List, [], ◌∷◌, Option, Result, Ok, codes}
use Rattle.dv_value.specs.Tree.{Field, Tree, fields_of}
use Rattle.dv_match.specs.declared.fault.FilterFault.{FilterFault}
use Rattle.dv_value.specs.Short.{int, list, one}
use Rattle.dv_match.specs.Parsing.{filter_in}
use Rattle.dv_value.specs.Results.{◌>>=◌}
use Rattle.dv_keyed.specs.Index.{IndexForm, id_form}
use Rattle.dv_index.specs.Indexed.{documents_covered, index_chosen}
use Rattle.dv_index.specs.Inner.Indexed.{index_on}
use Rattle.dv_index.specs.Unique.{are_broken, clashes, replacing_clashes}

-- the indexes on `_id`, on a and on b, made in this order
abbrev pub three_indexes : List IndexForm
three_indexes = id_form ∷ index_on (codes "a_1") (codes "a" ∷ []) false ∷ index_on (codes "b_1") (codes "b" ∷ []) false ∷ []

-- the name of the one of them that answers a filter, or the fault of what is no filter
abbrev pub index_for : List Field → Result (Option (List ℕ)) FilterFault
index_for filter = filter_in (fields_of filter) >>= λ ms. Ok (index_chosen ms three_indexes)

-- three documents, with an array, 4 and 1 as a
abbrev pub three_documents : List (List Field)
three_documents = ((codes "_id", int 1) ∷ (codes "a", list (int 0 ∷ int 5 ∷ [])) ∷ []) ∷ ((codes "_id", int 2) ∷ (codes "a", int 4) ∷ []) ∷ ((codes "_id", int 3) ∷ (codes "a", int 1) ∷ []) ∷ []

-- how many of them a find covers with some indexes, or the fault of what is no filter
abbrev pub covered_by : List IndexForm → List Field → Result ℕ FilterFault
covered_by indexes filter = filter_in (fields_of filter) >>= λ ms. Ok (documents_covered ms (record { documents = three_documents; indexes = indexes }))

-- a unique index on a
abbrev pub unique_on_a : IndexForm
unique_on_a = index_on (codes "a_1") (codes "a" ∷ []) true

-- whether two documents that have these fields after their `_id`s break it
abbrev pub break_it : List Field → List Field → Bool
break_it first second = are_broken (id_form ∷ unique_on_a ∷ []) (((codes "_id", int 1) ∷ first) ∷ ((codes "_id", int 2) ∷ second) ∷ [])

-- the same for documents with these values as a
abbrev pub are_one_key : Tree → Tree → Bool
are_one_key v w = break_it (one (codes "a") v) (one (codes "a") w)

-- a document of this `_id`, with this number as a
abbrev pub numbered : ℕ → ℕ → List Field
numbered n a = (codes "_id", int n) ∷ one (codes "a") (int a)

-- whether a document of this `_id`, with 5 as a, clashes with one of `_id` 1 that has 5 too
abbrev pub clash_beside_it : ℕ → Bool
clash_beside_it n = clashes (unique_on_a ∷ []) (numbered n 5) (numbered 1 5 ∷ [])

-- whether documents of `_id` 1 and 2 clash if they get these numbers as a, one after the other, in place of 5 and 6
abbrev pub replaced_clash : ℕ → ℕ → Bool
replaced_clash first second = replacing_clashes (unique_on_a ∷ []) (numbered 1 first ∷ numbered 2 second ∷ []) (numbered 1 5 ∷ numbered 2 6 ∷ [])
