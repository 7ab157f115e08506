-- Entries of views, some of which are before a place: definitions for bodies.
use Rattle.std.specs.Prelude.{ℕ, suc, Bool, List, [], ◌∷◌, take, map, Option, None, Some, if◌then◌else◌}
use Rattle.std.specs.Option.{option_map}
use Rattle.std.specs.declared.string.String.{String}
use Rattle.std.specs.String.{string_bytes}
use Rattle.std.specs.Str.{bytes_eq}
use Rattle.dv_change.specs.declared.taking.Taken as taking
use Rattle.dv_views.specs.Inner.Body.{Body}
use Rattle.dv_views.specs.Inner.Seen.{entry_view}
use Rattle.dv_views.specs.Inner.Turned.{Known, known_at, with_known}
use Rattle.dv_views.specs.Inner.Views.{Views}

abbrev pub Entries : Type 0 → Type 0
Entries Y = List (String Y × Body)

-- the test of a key in a look-up by a name
abbrev pub is_called : {Y : Type 0} → List ℕ → String Y → Bool
is_called name k = bytes_eq name (string_bytes k)

abbrev pub views : {Y : Type 0} → Entries Y → Views
views es = map entry_view es

-- the place of the first entry of a name
abbrev pub place_of_name : {Y : Type 0} → List ℕ → Entries Y → Option ℕ
place_of_name name [] = None
place_of_name name (e ∷ es) = if is_called name e.0 then Some 0 else option_map suc (place_of_name name es)

-- the views before a place
abbrev pub views_before : {Y : Type 0} → ℕ → Entries Y → Views
views_before place es = views (take place es)

-- the changes of each name, with those that views pass on
abbrev pub told_over : {Y : Type 0} → Known → Entries Y → Known
told_over known [] = known
told_over known (e ∷ es) = told_over (with_known (string_bytes e.0) e.1.told known) es

-- the changes of each name that the view at a place receives
abbrev pub told_before : {Y : Type 0} → List ℕ → List taking.Taken → ℕ → Entries Y → Known
told_before namespace all place es = told_over (known_at namespace all) (take place es)

-- the changes that the first view of a name passes on
abbrev pub told_named : {Y : Type 0} → List ℕ → Entries Y → Option (Option (List taking.Taken))
told_named name [] = None
told_named name (e ∷ es) = if is_called name e.0 then Some e.1.told else told_named name es

abbrev pub told_else : Option (Option (List taking.Taken)) → Option (List taking.Taken) → Option (List taking.Taken)
told_else None other = other
told_else (Some all) other = all

-- the changes of a name that the view at a place receives, as they are looked up
abbrev pub told_found : {Y : Type 0} → List ℕ → List taking.Taken → ℕ → Entries Y → Known
told_found namespace all place es name = told_else (told_named name (take place es)) (known_at namespace all name)
