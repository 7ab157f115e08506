-- The marks of views: whether each is live, and with how many ticks, or stale. They show only in viewStats.
use Rattle.std.specs.Prelude.{◌≡◌, ◌≢◌, ◌⊎◌, ℕ, Bool, true, false, List, [], ◌∷◌, ◌++◌, length, map, Option, Some, None, if◌then◌else◌, ⊤}
use Rattle.std.specs.List.{AllZip}
use Rattle.std.specs.Option.{option_and_then, option_map}
use Rattle.dv_value.specs.Tree.{Field}
use Rattle.dv_coll.specs.Collection.{id_key}
use Rattle.dv_command.specs.Asked.{ViewOn}
use Rattle.dv_pipe.specs.Stages.{Lists, is_read}
use Rattle.dv_change.specs.Raised.{raised}
use Rattle.dv_views.specs.Flow.{Share, shares}
use Rattle.dv_views.specs.Forms.{ViewForm, is_name_among, names_read, needed}
use Rattle.dv_catalog.specs.Changes.{Change, gone}
use Rattle.dv_catalog.specs.State.{State, documents_of, empty_state, has_name, is_collection, lists_of, rows_of}
use Rattle.dv_catalog.specs.Told.{told}

-- a view is live, with the ticks of its changes since it was created or recomputed; or it is stale, since memory ran out, and has no
-- rows until it is needed again
pub data Mark : Type 0 where
  live : ℕ → Mark
  stale : Mark

-- the marks of all views, in the order of creation
abbrev pub Marks : Type 0
Marks = List Mark

-- the collections and views, with the views' marks
pub record Marked : Type 0 where
  pub state : State
  pub marks : Marks

-- no collections and no views
abbrev pub nothing_marked : Marked
nothing_marked = record { state = empty_state; marks = [] }

-- ---- changes

-- the share of each view in changes of a namespace, from the documents before the changes
abbrev pub shares_told : List ℕ → List Change → Lists → List ViewForm → List Share
shares_told namespace changes lists views = shares namespace (map told changes) lists views

-- a live view adds its share of the work to its ticks; a stale view stays stale
abbrev pub mark_counted : Share → Mark → Mark
mark_counted share (live ticks) = live (raised ticks share.work)
mark_counted share stale = stale

-- the marks of all views after their shares of the work are added
abbrev pub all_counted : List Share → Marks → Marks
all_counted [] marks = marks
all_counted (share ∷ rest) [] = []
all_counted (share ∷ rest) (mark ∷ marks) = mark_counted share mark ∷ all_counted rest marks

-- the marks after changes if no view becomes stale
abbrev pub marks_counted : List ℕ → List Change → Lists → List ViewForm → Marks → Marks
marks_counted namespace changes lists views marks = all_counted (shares_told namespace changes lists views) marks

-- a view becomes stale; this may happen only if changes reach it
pub record IsStruck (share : Share) (after : Mark) : Type 0 where
  pub stale : after ≡ stale
  pub reached : share.reached ≡ true

-- a view's mark after changes: it counts its share of the work, or becomes stale
abbrev pub IsMarkedBy : Share → Mark → Mark → Type 0
IsMarkedBy share before after = (after ≡ mark_counted share before) ⊎ IsStruck share after

-- each view's mark after changes is one that its share allows
abbrev pub AreMarkedSo : List Share → Marks → Marks → Type 0
AreMarkedSo [] before after = after ≡ before
AreMarkedSo (share ∷ rest) [] after = after ≡ []
AreMarkedSo (share ∷ rest) (mark ∷ before) [] = ⊥
AreMarkedSo (share ∷ rest) (mark ∷ before) (now ∷ after) = IsMarkedBy share mark now × AreMarkedSo rest before after

-- the marks that changes may lead to: each view counts its share of the work, or becomes stale if changes reach it
abbrev pub AreMarkedBy : List ℕ → List Change → Lists → List ViewForm → Marks → Marks → Type 0
AreMarkedBy namespace changes lists views before after = AreMarkedSo (shares_told namespace changes lists views) before after

-- ---- views that are needed, created and dropped

-- the mark of a view that is needed: a stale view is recomputed, and its ticks count from 0
abbrev pub mark_read : Mark → Mark
mark_read (live ticks) = live ticks
mark_read stale = live 0

-- the marks after the views with these names are needed
abbrev pub marks_named : List (List ℕ) → List ViewForm → Marks → Marks
marks_named names [] marks = marks
marks_named names (v ∷ views) [] = []
marks_named names (v ∷ views) (mark ∷ marks) = (if is_name_among v.name names then mark_read mark else mark) ∷ marks_named names views marks

-- the marks after the rows of these namespaces are read: stale views that are needed for this are recomputed
abbrev pub marks_read : List (List ℕ) → List ViewForm → Marks → Marks
marks_read names views marks = marks_named (needed views names) views marks

-- the mark of a view after a read that ran out of memory: as before, or recomputed if the view was needed
abbrev pub IsPartlyRead : Bool → Mark → Mark → Type 0
IsPartlyRead named before after = (after ≡ before) ⊎ ((named ≡ true) × (after ≡ mark_read before))

-- the marks of all views after a read that ran out of memory, if those with these names were needed
abbrev pub ArePartlyNamed : List (List ℕ) → List ViewForm → Marks → Marks → Type 0
ArePartlyNamed names [] before after = after ≡ before
ArePartlyNamed names (v ∷ views) [] after = after ≡ []
ArePartlyNamed names (v ∷ views) (mark ∷ before) [] = ⊥
ArePartlyNamed names (v ∷ views) (mark ∷ before) (now ∷ after) = IsPartlyRead (is_name_among v.name names) mark now × ArePartlyNamed names views before after

-- the marks that a read of these namespaces may leave if it runs out of memory: some of the needed stale views are recomputed
abbrev pub ArePartlyRead : List (List ℕ) → List ViewForm → Marks → Marks → Type 0
ArePartlyRead names views before after = ArePartlyNamed (needed views names) views before after

-- the names that a new view reads; a new collection reads none
abbrev pub names_of_new : Option ViewOn → List (List ℕ)
names_of_new None = []
names_of_new (Some on) = names_read on.stages on.source

-- the marks after a create: a new view is live, after the stale views that it needs are recomputed
abbrev pub marks_made : Option ViewOn → List ViewForm → Marks → Marks
marks_made None views marks = marks
marks_made (Some on) views marks = marks_read (names_read on.stages on.source) views marks ++ live 0 ∷ []

-- the marks without that of the view with this name
abbrev pub marks_without : List ℕ → List ViewForm → Marks → Marks
marks_without namespace [] marks = marks
marks_without namespace (v ∷ views) [] = []
marks_without namespace (v ∷ views) (mark ∷ marks) = if has_name namespace v then marks_without namespace views marks else mark ∷ marks_without namespace views marks

-- the removal of all documents, one after the other
abbrev pub all_gone : List (List Field) → List Change
all_gone documents = map (λ d. gone (id_key d)) documents

-- the marks that a drop may lead to, given whether it drops a collection: a collection's documents are removed one by one; with a view
-- its mark is removed
abbrev pub AreMarkedWhere : Bool → List ℕ → State → Marks → Marks → Type 0
AreMarkedWhere true namespace state before after = AreMarkedBy namespace (all_gone (documents_of namespace state.namespaces)) (lists_of state.namespaces) state.views before after
AreMarkedWhere false namespace state before after = after ≡ marks_without namespace state.views before

-- the marks that a drop of this namespace may lead to
abbrev pub AreMarkedByDrop : List ℕ → State → Marks → Marks → Type 0
AreMarkedByDrop namespace state before after = AreMarkedWhere (is_collection namespace state.namespaces) namespace state before after

-- ---- what viewStats returns

-- what viewStats returns: whether the view is live, the number of its rows, and its ticks
pub record Stats : Type 0 where
  pub is_live : Bool
  pub rows : ℕ
  pub ticks : ℕ

-- what viewStats returns for a view with these rows and this mark; a stale view has 0 rows and 0 ticks
abbrev pub stats_by : List (List Field) → Mark → Stats
stats_by rows (live ticks) = record { is_live = true; rows = length rows; ticks = ticks }
stats_by rows stale = record { is_live = false; rows = 0; ticks = 0 }

-- the mark of the view with this name, if any
abbrev pub mark_named : List ℕ → List ViewForm → Marks → Option Mark
mark_named namespace [] marks = None
mark_named namespace (v ∷ views) [] = None
mark_named namespace (v ∷ views) (mark ∷ marks) = if has_name namespace v then Some mark else mark_named namespace views marks

-- what viewStats returns for a namespace; none if no view has this name
abbrev pub stats_of : List ℕ → Marked → Option Stats
stats_of namespace marked = option_map (stats_by (rows_of namespace marked.state)) (mark_named namespace marked.state.views marked.marks)

-- ---- what a view stores

-- a live view stores all rows of its pipeline, a stale view stores nothing
abbrev pub rows_by : List (List Field) → Mark → Option (List (List Field))
rows_by rows (live ticks) = Some rows
rows_by rows stale = None

-- the rows that the view with this name stores, if it exists and is live
abbrev pub stored_of : List ℕ → Marked → Option (List (List Field))
stored_of namespace marked = option_and_then (rows_by (rows_of namespace marked.state)) (mark_named namespace marked.state.views marked.marks)

-- ---- what a live view reads

module _ (views : List ViewForm) (marks : Marks) where
  -- what a view reads is not stale, if the view with this mark is live
  abbrev pub ReadsNoStale : ViewForm → Mark → Type 0
  ReadsNoStale v (live ticks) = (name : List ℕ) → is_read v.stages v.source name ≡ true → mark_named name views marks ≢ Some stale
  ReadsNoStale v stale = ⊤

  -- no live view reads a stale one
  abbrev pub LiveReadNoStale : Type 0
  LiveReadNoStale = AllZip ReadsNoStale views marks
