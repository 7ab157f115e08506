-- All views in memory after a change that is passed on: definitions for bodies.
use Rattle.std.specs.Prelude.{◌≡◌, ℕ, suc, ◌==◌, Bool, false, List, [], ◌∷◌, None, ⊤}
use Rattle.std.specs.List.{list_any}
use Rattle.std.specs.declared.string.String.{String}
use Rattle.dv_change.specs.declared.taking.Taken as taking
use Rattle.dv_views.specs.Inner.Body.{Body}
use Rattle.dv_views.specs.Inner.Older.{Entries, views}
use Rattle.dv_views.specs.Inner.Seen.{AreSilent, HaveHeights}
use Rattle.dv_views.specs.Inner.Turned.{HaveTaken, known_at}
use Rattle.dv_views.specs.Inner.Views.{AreNamedApart}

abbrev pub is_place_among : ℕ → List ℕ → Bool
is_place_among place places = list_any (λ other. other == place) places

-- of the entries, counted from a given place, only those at these places have changes to pass on
abbrev pub AreSilentBut : {Y : Type 0} → List ℕ → ℕ → Entries Y → Type 0
AreSilentBut places place [] = ⊤
AreSilentBut places place (e ∷ es) = (is_place_among place places ≡ false → e.1.told ≡ None) × AreSilentBut places (suc place) es

abbrev pub silenced : {Y : Type 0} → String Y × Body → String Y × Body
silenced e = (e.0, record e.1 { told = None })

-- entries after a change
pub record IsHandedOn {Y : Type 0} (namespace : List ℕ) (all : List taking.Taken) (before after : Entries Y) : Type 0 where
  pub taken : HaveTaken (known_at namespace all) (views before) (views after)
  pub apart : AreNamedApart (views after)
  pub heights : (high : List ℕ → ℕ) → HaveHeights high before → HaveHeights high after
  pub silent : AreSilent after
