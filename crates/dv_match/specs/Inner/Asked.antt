-- What conditions are checked on: what a path leads to in a document, or an element by itself.
use Rattle.std.specs.Prelude.{List, [], ◌∷◌, Some}
use Rattle.dv_value.specs.View.{tree}
use Rattle.dv_candidates.specs.Candidates.{Candidate, whole, leaves, with_elements}
use Rattle.dv_candidates.specs.View.{seen}
use Rattle.dv_match.specs.declared.place.Subject.{Subject}
use Rattle.dv_match.specs.declared.place.Subject.TheVariants.{Path, Sole, Element}

abbrev pub wholes : Subject → List Candidate
wholes (Path d p) = whole d.now p.now
wholes (Sole c) = seen c ∷ []
wholes (Element v) = Some (tree v.now) ∷ []

-- with the elements of arrays, except of an array that is an element by itself
abbrev pub parts : Subject → List Candidate
parts (Path d p) = leaves d.now p.now
parts (Sole c) = with_elements (seen c)
parts (Element v) = Some (tree v.now) ∷ []
