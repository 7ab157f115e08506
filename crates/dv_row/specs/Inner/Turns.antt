-- Documents that are traversed field by field: what is left in the end of a document that was traversed up to a field.
use Rattle.std.specs.Prelude.{◌≡◌, ℕ, ◌+◌, ◌<◌, Bool, List, [], ◌∷◌, drop, Option, Some, None, slice_get}
use Rattle.dv_value.specs.Names.{AreNamed}
use Rattle.dv_value.specs.Tree.{document, Field, fields_of}
use Rattle.dv_value.specs.Inner.Tree.{fields_weight}
use Rattle.dv_row.specs.declared.level.Level.{Level}
use Rattle.dv_row.specs.declared.level.Turn.{Turn}
use Rattle.dv_row.specs.declared.level.Turn.TheVariants.{Ended, Entered}
use Rattle.dv_row.specs.Expressions.{with_field_behind}
use Rattle.dv_row.specs.Projecting.{paths_behind, left_of_value}
use Rattle.dv_row.specs.Row.{Row}

-- what is left of fields, after what is left of those before them
unfoldable pub left_behind : Bool → List (List (List ℕ)) → List Field → Row → Row
left_behind keeps paths [] left = left
left_behind keeps paths (f ∷ fs) left = left_behind keeps paths fs (with_field_behind f.0 (left_of_value keeps (paths_behind f.0 paths) f.1) left)

-- what is left of a level's document in the end
abbrev pub left_at_end : Bool → Level → Row
left_at_end keeps l = left_behind keeps l.ways (drop l.place l.document.now) l.left

-- fields, followed by the field that was entered, with what is left of the document in it
abbrev pub with_entered : Option Field → Row → Row → Row
with_entered None inner left = left
with_entered (Some f) inner left = with_field_behind f.0 (Some (document (fields_of inner))) left

-- what is left in the end of a level's document of which a field was entered, given what is left of the document in that field
abbrev pub left_around : Bool → Level → Row → Row
left_around keeps l inner = left_behind keeps l.ways (drop (l.place + 1) l.document.now) (with_entered (slice_get l.document.now l.place) inner l.left)

-- how much is still to be traversed: at a level, and after the field that was entered
abbrev pub fields_to_go : Level → ℕ
fields_to_go l = fields_weight (fields_of (drop l.place l.document.now))

abbrev pub fields_behind : Level → ℕ
fields_behind l = fields_weight (fields_of (drop (l.place + 1) l.document.now))

-- a level at its first field
pub record IsFresh (ways : List (List (List ℕ))) (d : Row) (l : Level) : Type 0 where
  pub same_ways : l.ways ≡ ways
  pub same_document : l.document.now ≡ d
  pub first : l.place ≡ 0
  pub nothing_left : l.left ≡ []

-- a document was entered: what is left of it decides what is left of the outer one
pub record IsEntered (keeps : Bool) (l outer inner : Level) : Type 0 where
  pub left : AreNamed inner.document.now → left_at_end keeps l ≡ left_around keeps outer (left_at_end keeps inner)
  pub further : fields_behind outer + fields_to_go inner < fields_to_go l

abbrev pub IsTurn : Bool → Level → Turn → Type 0
IsTurn keeps l (Ended left) = left_at_end keeps l ≡ left
IsTurn keeps l (Entered outer inner) = IsEntered keeps l outer inner
