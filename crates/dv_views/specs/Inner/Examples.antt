-- Views for examples.
use Rattle.std.specs.Prelude.{ℕ, List, [], ◌∷◌, codes}
use Rattle.dv_views.specs.Forms.{ViewForm}

-- without a stage
abbrev pub over_lists : List ℕ → List ℕ → ViewForm
over_lists name source = record { name = name; source = source; stages = [] }

-- each over the one before, the first over a collection
abbrev pub seven_views : List ViewForm
seven_views =
    over_lists (codes "1") (codes "c") ∷ over_lists (codes "2") (codes "1") ∷ over_lists (codes "3") (codes "2") ∷ over_lists (codes "4") (codes "3") ∷ over_lists (codes "5") (codes "4") ∷ over_lists (codes "6") (codes "5")
    ∷ over_lists (codes "7") (codes "6") ∷ []
