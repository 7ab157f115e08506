-- Which views a change of a namespace reaches, as lists in memory: definitions for bodies.
use Rattle.std.specs.Prelude.{◌≡◌, ℕ, suc, ◌-◌, ◌==◌, ◌||◌, Bool, true, false, not, List, [], ◌∷◌, ◌++◌, Option, None, Some, Vec, length, map, filter, nat_lt, slice_get, if◌then◌else◌}
use Rattle.std.specs.List.{AllByRecursion, list_any}
use Rattle.std.specs.Str.{bytes_eq}
use Rattle.std.specs.String.{string_bytes}
use Rattle.std.specs.declared.string.String.{String}
use Rattle.dv_pipe.specs.Stages.{is_read}
use Rattle.dv_pipe.specs.declared.stage.Stage.{Stage}
use Rattle.dv_views.specs.Forms.{ViewForm, is_name_among, is_read_by}
use Rattle.dv_views.specs.Inner.Body.{Body}

-- whether a view reads one of the names
abbrev pub reads_any : List (List ℕ) → ViewForm → Bool
reads_any names v = list_any (λ name. is_read v.stages v.source name) names

-- the places, counted from a given place, of the views that read one of the names, directly or through other views
abbrev pub readers_from : List (List ℕ) → ℕ → List ViewForm → List ℕ
readers_from names place [] = []
readers_from names place (v ∷ views) = if reads_any names v then place ∷ readers_from (v.name ∷ names) (suc place) views else readers_from names (suc place) views

-- the places of the views that a change of the namespace reaches
abbrev pub readers_of : List ℕ → List ViewForm → List ℕ
readers_of namespace views = readers_from (namespace ∷ []) 0 views

-- ---- lists of places

-- namespaces, each with places of views
abbrev pub Listing : Type 0
Listing = List (List ℕ × List ℕ)

abbrev pub listing_seen : {Y Z : Type 0} → List (String Y × Vec ℕ Z) → Listing
listing_seen es = map (λ e. (string_bytes e.0, e.1.items)) es

abbrev pub has_list : List ℕ → Listing → Bool
has_list name listing = list_any (λ l. bytes_eq name l.0) listing

-- the places in the first list of a name
abbrev pub places_under : List ℕ → Listing → List ℕ
places_under name [] = []
places_under name (l ∷ ls) = if bytes_eq name l.0 then l.1 else places_under name ls

-- each list has the places of the views that a change of its namespace reaches, and each namespace that is read has a list
pub record AreReaders (views : List ViewForm) (listing : Listing) : Type 0 where
  pub right : AllByRecursion (λ l. l.1 ≡ readers_of l.0 views) listing
  pub whole : (name : List ℕ) → is_read_by views name ≡ true → has_list name listing ≡ true

-- ---- one more view

-- lists with one more view, which is after the others: each namespace that the others read has a list, and so has each of the names
pub record AreListed (views : List ViewForm) (more : ViewForm) (names : List (List ℕ)) (listing : Listing) : Type 0 where
  pub right : AllByRecursion (λ l. l.1 ≡ readers_of l.0 (views ++ more ∷ [])) listing
  pub whole : (name : List ℕ) → is_read_by views name || is_name_among name names ≡ true → has_list name listing ≡ true

-- whether a pipeline reads the name of an entry
abbrev pub is_entry_read : {Y : Type 0} → List Stage → List ℕ → Option (String Y × Body) → Bool
is_entry_read stages source None = false
is_entry_read stages source (Some e) = is_read stages source (string_bytes e.0)

-- whether a pipeline reads one of the entries at these places
abbrev pub reads_one : {Y : Type 0} → List Stage → List ℕ → List (String Y × Body) → List ℕ → Bool
reads_one stages source es places = list_any (λ place. is_entry_read stages source (slice_get es place)) places

-- places that a change of the namespace reaches, with that of one more view if it reaches this view
abbrev pub places_with : {Y : Type 0} → List ℕ → List Stage → List ℕ → List (String Y × Body) → List ℕ → List ℕ
places_with namespace stages source es places = if is_read stages source namespace || reads_one stages source es places then places ++ length es ∷ [] else places

-- with a list of one place for a name, if the name has no list
abbrev pub with_list : List ℕ → ℕ → Listing → Listing
with_list name place listing = if has_list name listing then listing else listing ++ (name, place ∷ []) ∷ []

-- ---- a view that is removed

-- the place of a view after another one was removed
abbrev pub lowered : ℕ → ℕ → ℕ
lowered place other = if nat_lt place other then other - 1 else other

abbrev pub without : ℕ → List ℕ → List ℕ
without place places = map (lowered place) (filter (λ other. not (other == place)) places)

-- with a list before the others, unless it is empty
abbrev pub listed_before : List ℕ → List ℕ → Listing → Listing
listed_before name [] listing = listing
listed_before name (p ∷ ps) listing = (name, p ∷ ps) ∷ listing

abbrev pub listing_without : ℕ → Listing → Listing
listing_without place [] = []
listing_without place (l ∷ ls) = listed_before l.0 (without place l.1) (listing_without place ls)
