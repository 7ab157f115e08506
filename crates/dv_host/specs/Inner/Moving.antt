-- What one connection does in its turns.
use Rattle.std.specs.Prelude.{◌≡◌, ℕ, ◌≤◌, List, ◌++◌, length, ⊤}
use Rattle.std.specs.List.{AllByRecursion}
use Rattle.std.specs.Io.KnownBytes.{Consumes}
use Rattle.dv_host.specs.Channel.{Gains}
use Rattle.dv_host.specs.Schedule.{Step, heard, answers, may_wait, closing, IsPieceOf}
use Rattle.dv_host.specs.View.{Seen}
use Rattle.dv_host.specs.Host.{Settles}
use Rattle.dv_host.specs.declared.link.Told.{Told}
use Rattle.dv_host.specs.declared.link.Told.TheVariants as told

-- the connection takes the first bytes of the replies that it has not taken yet
pub record Gives (was now : Seen) : Type 0 where
  pub given : List ℕ
  pub taken : Gains was.taken now.taken given
  pub kept : was.unsent ≡ given ++ now.unsent
  pub still : now ≡ record was { taken = now.taken; unsent = now.unsent }

-- bytes are read from the connection, and added to those that were not passed to its session
pub record Fills (was now : Seen) : Type 0 where
  pub read : List ℕ
  pub consumed : Consumes was.left now.left read
  pub still : now ≡ record was { left = now.left; pending = was.pending ++ read }

-- the progress of a connection: bytes are read from it and passed to its session in order, and it takes bytes of replies
pub record Moves {W : Type 0} (Plays : W → List Step → W → Type 0) (old new : W) (was now : Seen) : Type 0 where
  pub steps : List Step
  pub played : Plays old steps new
  pub own : AllByRecursion (IsPieceOf was.session) steps
  pub same : now.session ≡ was.session
  pub read : List ℕ
  pub consumed : Consumes was.left now.left read
  pub fed_so : was.pending ++ read ≡ heard was.session steps ++ now.pending
  pub given : List ℕ
  pub taken : Gains was.taken now.taken given
  pub kept : was.unsent ++ answers was.session steps ≡ given ++ now.unsent
  pub few : length now.unsent ≤ may_wait was.session (length was.unsent) steps
  pub shut : now.closing ≡ closing was.session was.closing steps

-- what a step of serving a connection implies: nothing, unless it was the connection's end
abbrev pub SettlesIn : Told → Seen → Type 0
SettlesIn told.Waits link = ⊤
SettlesIn told.Again link = ⊤
SettlesIn (told.Over fate) link = Settles fate link
