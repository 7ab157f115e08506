-- Documents of worked examples.
use Rattle.std.specs.Prelude.{List, codes}
use Rattle.dv_value.specs.Tree.{Tree, Field}
use Rattle.dv_value.specs.Short.{int, one, list}

-- {a: [..]}, {x: [..]}
abbrev pub a_list : List Tree → List Field
a_list vs = one (codes "a") (list vs)

abbrev pub x_list : List Tree → List Field
x_list vs = one (codes "x") (list vs)

-- {_id: 1}
abbrev pub id_alone : List Field
id_alone = one (codes "_id") (int 1)
