-- Indexes for examples.
use Rattle.std.specs.Prelude.{false, List, [], ◌∷◌, codes}
use Rattle.dv_keyed.specs.Index.{IndexForm, id_form}
use Rattle.dv_index.specs.Inner.Indexed.{index_on}

-- the index on `_id`, and one on a
abbrev pub beside_id : List IndexForm
beside_id = id_form ∷ index_on (codes "a_1") (codes "a" ∷ []) false ∷ []
