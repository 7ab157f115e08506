-- Which value is the first of the least, or of the greatest, among values. This says what the value is, not how it is found.
use Rattle.std.specs.Prelude.{◌≡◌, ◌≢◌, ◌⊎◌, List, ◌∷◌, ◌++◌}
use Rattle.std.specs.List.{AllByRecursion}
use Rattle.std.specs.declared.cmp.Ordering.{Ordering}
use Rattle.dv_value.specs.Tree.{Tree, null}
use Rattle.dv_order.specs.Order.{order}

-- a value among others that isn't null. It compares so (less, or greater) with each earlier value except null, and no later one
-- except null compares so with it
pub record Leads (so : Ordering) (vs : List Tree) (x : Tree) : Type 0 where
  pub earlier : List Tree
  pub later : List Tree
  pub there : vs ≡ earlier ++ x ∷ later
  pub some : x ≢ null
  pub before : AllByRecursion (λ v. v ≢ null → order x v ≡ so) earlier
  pub behind : AllByRecursion (λ v. v ≢ null → order v x ≢ so) later

-- the value that leads, or null if no value except null is there
abbrev pub IsLeader : Ordering → List Tree → Tree → Type 0
IsLeader so vs x = (x ≡ null) × AllByRecursion (λ v. v ≡ null) vs ⊎ Leads so vs x
