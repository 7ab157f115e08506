-- Worked examples: what $group and $lookup return for rows, with the stage and the rows as they are written.
use Rattle.std.specs.Prelude.{ℕ, pos, true, List, [], ◌∷◌, Result, Ok, codes}
use Rattle.dv_value.specs.Tree.{Tree, int64, boolean, null, Field}
use Rattle.dv_row.specs.declared.fault.PipelineFault.{PipelineFault}
use Rattle.dv_value.specs.Results.{◌>>=◌}
use Rattle.dv_value.specs.Short.{int, text, doc, list}
use Rattle.dv_row.specs.Row.{Row}
use Rattle.dv_gather.specs.GroupParsing.{group_in}
use Rattle.dv_gather.specs.Grouping.{grouped}
use Rattle.dv_gather.specs.Lookups.{lookup_in, looked_up}

-- a field of a $group: an accumulator of a value
abbrev pub by : List ℕ → List ℕ → Tree → Field
by name word v = (name, doc ((word, v) ∷ []))

-- {_id: "$k", lo: {$min: "$v"}, all: {$push: "$v"}, s: {$sum: "$v"}}
abbrev pub a_group : Tree
a_group = doc ((codes "_id", text (codes "$k")) ∷ by (codes "lo") (codes "$min") (text (codes "$v")) ∷ by (codes "all") (codes "$push") (text (codes "$v")) ∷ by (codes "s") (codes "$sum") (text (codes "$v")) ∷ [])

-- {_id: 1, k: "a", v: 3}, {_id: 2, k: "a", v: null}, {_id: 3, k: "b"}, {_id: 4, v: 2}
abbrev pub group_rows : List Row
group_rows =
    ((codes "_id", int 1) ∷ (codes "k", text (codes "a")) ∷ (codes "v", int 3) ∷ [])
    ∷ ((codes "_id", int 2) ∷ (codes "k", text (codes "a")) ∷ (codes "v", null) ∷ [])
    ∷ ((codes "_id", int 3) ∷ (codes "k", text (codes "b")) ∷ [])
    ∷ ((codes "_id", int 4) ∷ (codes "v", int 2) ∷ []) ∷ []

abbrev pub group_row : Tree → Tree → List Tree → Tree → Row
group_row id least all sum = (codes "_id", id) ∷ (codes "lo", least) ∷ (codes "all", list all) ∷ (codes "s", sum) ∷ []

-- "x", 3, true, [5]: values of four classes
abbrev pub mixed : List Tree
mixed = text (codes "x") ∷ int 3 ∷ boolean true ∷ list (int 5 ∷ []) ∷ []

-- what a $group returns for rows
abbrev pub after_group : Tree → List Row → Result (List Row) PipelineFault
after_group v rows = group_in v >>= λ g. Ok (grouped g rows)

-- {from: "d", localField: "p", foreignField: "f", as: "o"}
abbrev pub a_lookup : Tree
a_lookup = doc ((codes "from", text (codes "d")) ∷ (codes "localField", text (codes "p")) ∷ (codes "foreignField", text (codes "f")) ∷ (codes "as", text (codes "o")) ∷ [])

-- {_id: 7}, {_id: 8, f: 2}, {_id: 9, f: [1, 2L]}, {_id: 10, f: [[1, 2]]}
abbrev pub seven : Row
seven = (codes "_id", int 7) ∷ []

abbrev pub eight : Row
eight = (codes "_id", int 8) ∷ (codes "f", int 2) ∷ []

abbrev pub nine : Row
nine = (codes "_id", int 9) ∷ (codes "f", list (int 1 ∷ int64 (pos 2) ∷ [])) ∷ []

abbrev pub ten : Row
ten = (codes "_id", int 10) ∷ (codes "f", list (list (int 1 ∷ int 2 ∷ []) ∷ [])) ∷ []

abbrev pub documents_to_find : List Row
documents_to_find = seven ∷ eight ∷ nine ∷ ten ∷ []

-- what a $lookup returns for rows
abbrev pub after_lookup : Tree → List Row → List Row → Result (List Row) PipelineFault
after_lookup v rows others = lookup_in v >>= λ l. Ok (looked_up l rows others)

-- {_id: null, lo: 2, all: [2], s: 2}, {_id: "a", lo: 3, all: [3, null], s: 3}, {_id: "b", lo: null, all: [], s: 0}
abbrev pub rows_of_three_groups : List Row
rows_of_three_groups = group_row null (int 2) (int 2 ∷ []) (int 2) ∷ group_row (text (codes "a")) (int 3) (int 3 ∷ null ∷ []) (int 3) ∷ group_row (text (codes "b")) null [] (int 0) ∷ []

-- {from: "d", localField: "p", foreignField: "f", as: "o", pipeline: []}
abbrev pub a_lookup_with_a_pipeline : Tree
a_lookup_with_a_pipeline = doc ((codes "from", text (codes "d")) ∷ (codes "localField", text (codes "p")) ∷ (codes "foreignField", text (codes "f")) ∷ (codes "as", text (codes "o")) ∷ (codes "pipeline", list []) ∷ [])

-- {_id: 1}, {_id: 2, p: [1, 2]}
abbrev pub rows_to_look_up : List Row
rows_to_look_up = ((codes "_id", int 1) ∷ []) ∷ ((codes "_id", int 2) ∷ (codes "p", list (int 1 ∷ int 2 ∷ [])) ∷ []) ∷ []

-- {_id: 1, o: [{_id: 7}]}, {_id: 2, p: [1, 2], o: [{_id: 8, f: 2}, {_id: 9, f: [1, 2L]}]}
abbrev pub rows_with_what_they_find : List Row
rows_with_what_they_find =
    ((codes "_id", int 1) ∷ (codes "o", list (doc seven ∷ [])) ∷ [])
    ∷ ((codes "_id", int 2) ∷ (codes "p", list (int 1 ∷ int 2 ∷ [])) ∷ (codes "o", list (doc eight ∷ doc nine ∷ [])) ∷ []) ∷ []
