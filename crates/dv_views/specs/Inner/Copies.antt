-- Documents of namespaces that are kept with the views that read them.
use Rattle.std.specs.Prelude.{◌≡◌, ℕ, false, List, [], ◌∷◌, map, Option, Some, None, if◌then◌else◌, ⊤}
use Rattle.std.specs.BTreeMap.{BTreeMap}
use Rattle.std.specs.Map.{lookup}
use Rattle.std.specs.Str.{bytes_eq}
use Rattle.std.specs.String.{string_bytes}
use Rattle.std.specs.declared.string.String.{String}
use Rattle.dv_change.specs.declared.change.Change.{Change}
use Rattle.dv_change.specs.declared.taking.Taken as taking
use Rattle.dv_change.specs.Changes.{Positioned, with_change}
use Rattle.dv_change.specs.Inner.Changes.{IsPositioned}
use Rattle.dv_change.specs.Inner.Told.{with_old}
use Rattle.dv_change.specs.Positions.{PosTree}
use Rattle.dv_pipe.specs.Sources.{Row}
use Rattle.dv_pipe.specs.Stages.{Lists}
use Rattle.dv_views.specs.Changed.{with_changed}
use Rattle.dv_views.specs.Flow.{shares}
use Rattle.dv_views.specs.Inner.Changed.{AreMade}
use Rattle.dv_views.specs.Inner.Counted.{AreCounted}
use Rattle.dv_views.specs.Placed.{positioned}
use Rattle.dv_views.specs.Inner.Turned.{HaveLost, HaveTaken, known_at}
use Rattle.dv_views.specs.Inner.Views.{AreOverLive, AreRight, Views, no_distance, reads_name, view_form}

-- the documents that are kept of each of some namespaces, at their positions
abbrev pub NamedCopies : Type 0
NamedCopies = List (List ℕ × Positioned)

-- what is kept under a name
abbrev pub copy_under : List ℕ → NamedCopies → Option Positioned
copy_under name copies = lookup (bytes_eq name) copies

-- copies in memory
abbrev pub copies_seen : {Y : Type 0} → List (String Y × BTreeMap PosTree Row) → NamedCopies
copies_seen es = map (λ e. (string_bytes e.0, e.1.entries)) es

-- all are in the order of their positions
abbrev pub ArePositionedCopies : NamedCopies → Type 0
ArePositionedCopies copies = (name : List ℕ) (rows : Positioned) → copy_under name copies ≡ Some rows → IsPositioned rows

-- this is kept under a name, and under the others what was kept before
abbrev pub HaveCopy : List ℕ → Option Positioned → NamedCopies → NamedCopies → Type 0
HaveCopy name copy before after = (other : List ℕ) → copy_under other after ≡ (if bytes_eq name other then copy else copy_under other before)

-- of what was kept, only what some view reads is kept
abbrev pub HaveCopiesRead : Views → NamedCopies → NamedCopies → Type 0
HaveCopiesRead views before after = (name : List ℕ) → copy_under name after ≡ (if reads_name views name then copy_under name before else None)

-- what is kept, if anything is, are these documents
abbrev pub IsCopy : Option Positioned → List Row → Type 0
IsCopy None documents = ⊤
IsCopy (Some rows) documents = rows ≡ positioned documents

-- what is kept is what the lists hold
abbrev pub AreCopies : Lists → NamedCopies → Type 0
AreCopies lists copies = (name : List ℕ) → IsCopy (copy_under name copies) (lists name)

-- only what some view reads is kept
abbrev pub AreCopiesRead : Views → NamedCopies → Type 0
AreCopiesRead views copies = (name : List ℕ) → reads_name views name ≡ false → copy_under name copies ≡ None

-- ---- views, and what is kept for them

pub record KeptViews : Type 0 where
  pub views : Views
  pub copies : NamedCopies

-- the views are right over the lists, and what is kept are documents of these that some view reads
pub record AreKeptRight (lists : Lists) (kept : KeptViews) : Type 0 where
  pub views : AreRight lists kept.views
  pub copies : AreCopies lists kept.copies
  pub read : AreCopiesRead kept.views kept.copies

-- ---- changes of a namespace

-- if the views were right over some lists, they are right over these lists with the changes
abbrev pub StayKeptRight : List ℕ → List Change → KeptViews → KeptViews → Type 0
StayKeptRight namespace changes before after = (lists : Lists) → AreMade changes (lists namespace) → AreKeptRight lists before → AreKeptRight (with_changed namespace changes lists) after

-- if the views were right over some lists, each has counted its share of the work for these changes
abbrev pub CountKeptWork : List ℕ → List Change → KeptViews → KeptViews → Type 0
CountKeptWork namespace changes before after =
    (lists : Lists) → AreMade changes (lists namespace) → AreKeptRight lists before → AreCounted (shares namespace changes lists (map view_form before.views)) before.views after.views

-- ---- one change

-- a change of a namespace whose documents are kept is passed on with the document that was there before
pub record IsToldOf (namespace : List ℕ) (change : Change) (before after : NamedCopies) (taken : taking.Taken) : Type 0 where
  pub rows : Positioned
  pub there : copy_under namespace before ≡ Some rows
  pub told : taken ≡ with_old rows change
  pub copies : HaveCopy namespace (Some (with_change rows change)) before after

-- the change is passed on like that, or it can't be, and nothing of its namespace is kept
abbrev pub HaveTold : List ℕ → Change → NamedCopies → NamedCopies → Option taking.Taken → Type 0
HaveTold namespace change before after None = HaveCopy namespace None before after
HaveTold namespace change before after (Some taken) = IsToldOf namespace change before after taken

-- views after a change that is passed on with the document that was there before, or that can't be
abbrev pub HaveHeard : List ℕ → Option taking.Taken → Views → Views → Type 0
HaveHeard namespace None before after = HaveLost namespace before after
HaveHeard namespace (Some taken) before after = HaveTaken (known_at namespace (taken ∷ [])) before after

pub record HaveTakenChange (namespace : List ℕ) (change : Change) (before after : KeptViews) : Type 0 where
  pub told : Option taking.Taken
  pub copies : HaveTold namespace change before.copies after.copies told
  pub views : HaveHeard namespace told before.views after.views
  pub live : AreOverLive no_distance after.views
