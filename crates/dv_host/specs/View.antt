-- Connections, as they appear from outside.
use Rattle.std.specs.Prelude.{ℕ, List, Option}

-- an open connection: its session; the bytes of its input that are left, and the bytes that it took, if they are known; the bytes of
-- replies that it has not taken; the bytes that were not passed to its session; and the fault that closed its session
pub record Seen : Type 0 where
  pub session : ℕ
  pub left : Option (List ℕ)
  pub taken : Option (List ℕ)
  pub unsent : List ℕ
  pub pending : List ℕ
  pub closing : Option ℕ
