-- Operators with the rows that they have taken in.
use Rattle.std.specs.Prelude.{List, map}
use Rattle.dv_change.specs.declared.keeping.Keeping.{Keeping}
use Rattle.dv_change.specs.Changes.{Positioned}
use Rattle.dv_change.specs.Inner.Turning.{Turning}

-- for operators: their results for the lists that they read by `$lookup` and for rows, that they aren't spent, and which of these
-- they have taken in
module _ {O : Type 0} (makes : O → List Positioned → Positioned → Positioned) (sound : O → Type 0) (holds : O → List Positioned → Positioned → Type 0) where
  -- the stage of such an operator, with the rows and lists that are stored; it has taken in these
  abbrev pub kept_turning : Turning (Keeping O)
  kept_turning = record {
    form = λ t. record { makes = makes t.operator; named = map (λ m. m.entries) t.lists.items };
    left = λ t. t.rows.entries;
    sound = λ t. sound t.operator × holds t.operator (map (λ m. m.entries) t.lists.items) t.rows.entries;
  }
