-- Calls that answer a question: whether a value passes a test.
use Rattle.std.specs.Prelude.{◌≡◌, Bool}

-- whatever the call returns for x is the result of the test for what x represents
pub record Answers {X Y : Type 0} (seen : X → Y) (call : X → Bool → Type 0) (test : Y → Bool) : Type 0 where
  pub at : (x : X) (b : Bool) → call x b → b ≡ test (seen x)
