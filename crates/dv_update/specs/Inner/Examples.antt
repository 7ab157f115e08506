-- Worked examples: the result of an update for a document, both as they are written.
use Rattle.std.specs.Prelude.{ℕ, List, [], ◌∷◌, Result, codes}
use Rattle.dv_value.specs.Tree.{Tree, Field}
use Rattle.dv_update.specs.declared.fault.UpdateFault.{UpdateFault}
use Rattle.dv_update.specs.Apply.{applied}
use Rattle.dv_update.specs.Parsing.{update_of}
use Rattle.dv_value.specs.Results.{◌>>=◌}
use Rattle.dv_value.specs.Short.{int, long, doc, list}

-- an update with one operator of one path
abbrev pub one_edit : List ℕ → List ℕ → Tree → List Field
one_edit operator path v = (operator, doc ((path, v) ∷ [])) ∷ []

-- {$set: {..}}
abbrev pub set_each : List Field → List Field
set_each fields = (codes "$set", doc fields) ∷ []

-- {$push: {a: v}}, {$push: {a: {$each: [..]}}}, {$inc: {v: 1}}
abbrev pub push_to_a : Tree → List Field
push_to_a v = one_edit (codes "$push") (codes "a") v

abbrev pub push_each_to_a : List Tree → List Field
push_each_to_a vs = push_to_a (doc ((codes "$each", list vs) ∷ []))

abbrev pub one_more_in_v : List Field
one_more_in_v = one_edit (codes "$inc") (codes "v") (int 1)

-- {v: 1, vw: 2}, {b: {$c: 1}}, and three paths that are not in their order
abbrev pub v_and_vw : List Field
v_and_vw = (codes "v", int 1) ∷ (codes "vw", int 2) ∷ []

abbrev pub dollar_below_b : List Field
dollar_below_b = (codes "b", doc ((codes "$c", int 1) ∷ [])) ∷ []

abbrev pub out_of_order : List Field
out_of_order = (codes "x.10", int 1) ∷ (codes "x.2", int 2) ∷ (codes "b", int 3) ∷ []

-- {a: 1, "a.b": 2}: one path begins the other one
abbrev pub one_inside_the_other : List Field
one_inside_the_other = (codes "a", int 1) ∷ (codes "a.b", int 2) ∷ []

-- {_id: 1} with other fields, {_id: 1, v: ..}, {_id: 1, x: [..]}, {_id: 1, a: [..]} and {_id: 1, a: [1, 2, 2L, 3]}
abbrev pub id_and : List Field → List Field
id_and fields = (codes "_id", int 1) ∷ fields

abbrev pub with_v : Tree → List Field
with_v v = id_and ((codes "v", v) ∷ [])

abbrev pub with_x : List Tree → List Field
with_x vs = id_and ((codes "x", list vs) ∷ [])

abbrev pub with_a : List Tree → List Field
with_a vs = id_and ((codes "a", list vs) ∷ [])

abbrev pub start : List Field
start = with_a (int 1 ∷ int 2 ∷ long 2 ∷ int 3 ∷ [])

-- the result of the update for the document, or the fault of parsing or applying it
abbrev pub outcome : List Field → List Field → Result (List Field) UpdateFault
outcome update d = update_of update >>= λ u. applied u d
