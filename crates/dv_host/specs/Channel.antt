-- Connections that never block.
use Rattle.std.specs.Prelude.{◌≡◌, ℕ, ◌≤◌, ◌<◌, List, ◌++◌, length, take, Option, Some, None, ⊤}
use Rattle.std.specs.Io.KnownBytes.{Consumes, IsAtEnd, Keeps}
use Rattle.dv_host.specs.declared.channel.Taken.{Taken}
use Rattle.dv_host.specs.declared.channel.Taken.TheVariants.{Bytes, End, Later}

-- the bytes that a connection has taken grow by these, if they are known; whether they are known doesn't change
abbrev pub Gains : Option (List ℕ) → Option (List ℕ) → List ℕ → Type 0
Gains None None bytes = ⊤
Gains None (Some ys) bytes = ⊥
Gains (Some xs) None bytes = ⊥
Gains (Some xs) (Some ys) bytes = ys ≡ xs ++ bytes

-- the result of an attempt to read: the first bytes of `piece` were read, or the input is at its end, or there are no bytes yet
abbrev pub Takes : Taken → Option (List ℕ) → Option (List ℕ) → List ℕ → Type 0
Takes (Bytes count) old new piece = (0 < count) × (count ≤ length piece) × Consumes old new (take count piece)
Takes End old new piece = Keeps old new × IsAtEnd new
Takes Later old new piece = Keeps old new
