-- Bytes that are put over others.
use Rattle.std.specs.Prelude.{◌≡◌, ℕ, ◌+◌, ◌≤◌, List, ◌++◌, length, take, drop}

-- the bytes with these in place of as many from a place on
unfoldable pub with_bytes_at : ℕ → List ℕ → List ℕ → List ℕ
with_bytes_at at bytes out = take at out ++ (bytes ++ drop (at + length bytes) out)

-- the bytes were put over as many from a place on, and where they end
pub record IsPut (at : ℕ) (bytes old new : List ℕ) (end : ℕ) : Type 0 where
  pub within : at + length bytes ≤ length old
  pub put : new ≡ with_bytes_at at bytes old
  pub ends : end ≡ at + length bytes
