-- The view at a place in memory after a change that is passed on.
use Rattle.std.specs.Prelude.{◌≡◌, ℕ, List, Some, slice_get}
use Rattle.std.specs.Map.{values_of}
use Rattle.indexmap.specs.IndexMap.{set_value_at}
use Rattle.dv_change.specs.declared.taking.Taken as taking
use Rattle.dv_views.specs.Inner.Body.{Body}
use Rattle.dv_views.specs.Inner.Older.{Entries, told_before, told_found, views_before}
use Rattle.dv_views.specs.Inner.Seen.{view_seen}
use Rattle.dv_views.specs.Inner.Turned.{IsTakenBy, Known}
use Rattle.dv_views.specs.Inner.Views.{Views, distances_of}
use Rattle.dv_views.specs.declared.passing.Passing.{Passing}

-- the views that are older than the one to which a change is passed
abbrev pub older_views : Passing → Views
older_views p = views_before p.place p.views.now.entries

-- the changes of each name that this view receives
abbrev pub told_to : Passing → Known
told_to p = told_found p.namespace.now p.all.now p.place p.views.now.entries

pub record IsTakenAt {Y : Type 0} (namespace : List ℕ) (all : List taking.Taken) (place : ℕ) (before after : Entries Y) : Type 0 where
  pub old : Body
  pub new : Body
  pub there : slice_get (values_of before) place ≡ Some old
  pub left : after ≡ set_value_at before place new
  pub taken : (name : List ℕ) → IsTakenBy (told_before namespace all place before) (distances_of (views_before place before)) (view_seen name old) (record { view = view_seen name new; told = new.told })
  pub height : new.height ≡ old.height

-- the same for a change of which only the namespace is known
abbrev pub IsLostAt : {Y : Type 0} → List ℕ → ℕ → Entries Y → Entries Y → Type 0
IsLostAt namespace place before after = (all : List taking.Taken) → IsTakenAt namespace all place before after
