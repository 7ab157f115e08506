-- The components of a path in memory.
use Rattle.std.specs.Prelude.{ℕ, List, [], ◌∷◌}
use Rattle.dv_candidates.specs.declared.path.Components.{Components}
use Rattle.dv_candidates.specs.declared.path.Components.TheVariants.{One, Several}

-- the components as a list of names
abbrev pub names_of : Components → List (List ℕ)
names_of (One component) = component ∷ []
names_of (Several components) = components.items
