-- Views by their pipelines, in creation order: the rows of each namespace, what views read, their heights, and which new views are
-- refused.
use Rattle.std.specs.Prelude.{◌≡◌, ℕ, suc, true, false, ⊤, ◌||◌, ◌&&◌, Bool, List, [], ◌∷◌, ◌++◌, length, map, max, nat_lt, Option, Some, None, fold, if◌then◌else◌}
use Rattle.std.specs.List.{AllByRecursion, list_any}
use Rattle.std.specs.Str.{bytes_eq}
use Rattle.dv_change.specs.Changes.{Positioned}
use Rattle.dv_change.specs.Work.{through_forms}
use Rattle.dv_pipe.specs.declared.stage.Stage.{Stage}
use Rattle.dv_pipe.specs.Stages.{Lists, evaluated, is_read}
use Rattle.dv_views.specs.Placed.{ListPlaces, forms, lookups_of}
use Rattle.dv_views.specs.declared.fault.ViewFault.{ViewFault}
use Rattle.dv_views.specs.declared.fault.ViewFault.TheVariants.{Exists, ReadByView, LimitReached}

-- a view's name, the namespace of its source, and the stages of its pipeline
pub record ViewForm : Type 0 where
  pub name : List ℕ
  pub source : List ℕ
  pub stages : List Stage

-- ---- rows of namespaces

-- the rows of each namespace with one more view: under its name the rows of its pipeline, computed from the lists
abbrev pub with_rows : ViewForm → Lists → Lists
with_rows v lists name = if bytes_eq name v.name then evaluated v.stages v.source lists else lists name

-- the rows of each namespace with all views, each of which reads the collections and older views
abbrev pub rows_over : List ViewForm → Lists → Lists
rows_over views lists = fold (λ below v. with_rows v below) lists views

-- the rows, at positions, of a pipeline over a source
abbrev pub outs_of : List Stage → List ℕ → ListPlaces → Positioned
outs_of stages source places = through_forms (forms stages (map places (lookups_of stages source))) (places source)

-- the rows at positions of each namespace, with one more view
abbrev pub with_places : ViewForm → ListPlaces → ListPlaces
with_places v places name = if bytes_eq name v.name then outs_of v.stages v.source places else places name

-- the rows at positions of each namespace, with all views
abbrev pub places_over : List ViewForm → ListPlaces → ListPlaces
places_over views places = fold (λ below v. with_places v below) places views

-- ---- what views read

-- the namespaces that a pipeline reads: its source, and each that it reads by `$lookup`
abbrev pub names_read : List Stage → List ℕ → List (List ℕ)
names_read stages source = source ∷ lookups_of stages source

-- whether the name is among these
abbrev pub is_name_among : List ℕ → List (List ℕ) → Bool
is_name_among name names = list_any (λ other. bytes_eq name other) names

-- the names that are needed to compute these: themselves, and what each needed view reads, from the youngest view to the oldest
abbrev pub needed : List ViewForm → List (List ℕ) → List (List ℕ)
needed [] names = names
needed (v ∷ views) names = if is_name_among v.name (needed views names) then needed views names ++ names_read v.stages v.source else needed views names

-- for each view among the names, they include what it reads
abbrev pub IsClosed : List (List ℕ) → List ViewForm → Type 0
IsClosed names views = AllByRecursion (λ v. is_name_among v.name names ≡ true → AllByRecursion (λ name. is_name_among name names ≡ true) (names_read v.stages v.source)) views

-- each view reads only older views, not itself or a younger one
abbrev pub AreFounded : List ViewForm → Type 0
AreFounded [] = ⊤
AreFounded (v ∷ views) = AllByRecursion (λ other. is_read v.stages v.source other.name ≡ false) (v ∷ views) × AreFounded views

-- whether one of the views reads the namespace
abbrev pub is_read_by : List ViewForm → List ℕ → Bool
is_read_by views name = list_any (λ v. is_read v.stages v.source name) views

-- ---- heights of views

-- the height of a pipeline over a source: one more than the greatest height of what it reads
abbrev pub height_over : (List ℕ → ℕ) → List Stage → List ℕ → ℕ
height_over heights stages source = suc (fold (λ high name. max high (heights name)) 0 (names_read stages source))

-- the height of each name, with one more view
abbrev pub with_height : ViewForm → (List ℕ → ℕ) → List ℕ → ℕ
with_height v below name = if bytes_eq name v.name then height_over below v.stages v.source else below name

-- the height of each name; 0 for a collection
abbrev pub heights : List ViewForm → List ℕ → ℕ
heights views = fold (λ below v. with_height v below) (λ name. 0) views

-- ---- a new view

-- the greatest number of views
abbrev pub most_views : ℕ
most_views = 1000

-- the greatest height of a view
abbrev pub most_height : ℕ
most_height = 8

-- why a new view is refused, if it is: the first fault that applies
abbrev pub fault_of_new : List ViewForm → List ℕ → List ℕ → List Stage → Option ViewFault
fault_of_new views name source stages =
    if list_any (λ v. bytes_eq name v.name) views then Some Exists
    else if is_read_by views name || is_read stages source name then Some ReadByView
    else if nat_lt (length views) most_views && nat_lt (height_over (heights views) stages source) (suc most_height) then None
    else Some LimitReached
