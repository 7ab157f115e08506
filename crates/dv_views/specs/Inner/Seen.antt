-- What views in memory stand for, and what holds of them.
use Rattle.std.specs.Prelude.{◌≡◌, ℕ, List, None, map}
use Rattle.std.specs.List.{AllByRecursion}
use Rattle.std.specs.declared.string.String.{String}
use Rattle.std.specs.String.{string_bytes}
use Rattle.dv_views.specs.Inner.Body.{Body}
use Rattle.dv_views.specs.Inner.Readers.{AreReaders, Listing}
use Rattle.dv_views.specs.Inner.Turned.{Telling}
use Rattle.dv_views.specs.Forms.{AreFounded, ViewForm, heights}
use Rattle.dv_views.specs.Views.{View}
use Rattle.dv_views.specs.Inner.Views.{AreNamedApart, AreOverLive, Views, view_form, no_distance}

-- the view of an entry
abbrev pub view_seen : List ℕ → Body → View
view_seen name b = record { name = name; source = b.source; stages = b.stages; mark = b.mark }

abbrev pub entry_view : {Y : Type 0} → String Y × Body → View
entry_view e = view_seen (string_bytes e.0) e.1

-- an entry without what it keeps, and all entries like that
abbrev pub form_seen : List ℕ → Body → ViewForm
form_seen name b = view_form (view_seen name b)

abbrev pub forms_seen : {Y : Type 0} → List (String Y × Body) → List ViewForm
forms_seen es = map view_form (map entry_view es)

abbrev pub telling : {Y : Type 0} → String Y × Body → Telling
telling e = record { view = entry_view e; told = e.1.told }

-- views, each under a name of its own; each reads only older views, and a live view reads no stale one
pub record IsSoundRegistry (views : Views) : Type 0 where
  pub apart : AreNamedApart views
  pub live : AreOverLive no_distance views
  pub founded : AreFounded (map view_form views)

-- each entry keeps the height of its name
abbrev pub HaveHeights : {Y : Type 0} → (List ℕ → ℕ) → List (String Y × Body) → Type 0
HaveHeights high es = AllByRecursion (λ e. e.1.height ≡ high (string_bytes e.0)) es

-- no entry has changes to pass on
abbrev pub AreSilent : {Y : Type 0} → List (String Y × Body) → Type 0
AreSilent es = AllByRecursion (λ e. e.1.told ≡ None) es

-- entries of such views, each with its height and without changes to pass on; and the lists of their readers
pub record AreSoundEntries {Y : Type 0} (es : List (String Y × Body)) (listing : Listing) : Type 0 where
  pub views : IsSoundRegistry (map entry_view es)
  pub heights : HaveHeights (heights (forms_seen es)) es
  pub silent : AreSilent es
  pub readers : AreReaders (forms_seen es) listing
