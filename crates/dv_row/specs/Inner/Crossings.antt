-- A row with a value set at the end of a way through its documents.
use Rattle.std.specs.Prelude.{◌≡◌, ◌&&◌, ◌||◌, ℕ, Bool, List, [], ◌∷◌, None, Some}
use Rattle.std.specs.List.{list_all, zip}
use Rattle.std.specs.Str.{bytes_eq}
use Rattle.dv_candidates.specs.Candidates.{Candidate}
use Rattle.dv_order.specs.Same.{is_same}
use Rattle.dv_value.specs.Tree.{Tree, Field, document, fields_of}
use Rattle.dv_row.specs.declared.way.Crossing.{Crossing}
use Rattle.dv_row.specs.declared.way.Way.{Way}
use Rattle.dv_row.specs.Row.{Row}
use Rattle.dv_row.specs.Unwinding.{in_document, set_under}

-- the candidate is no document that a path could lead into
abbrev pub EndsWays : Candidate → Type 0
EndsWays v = (look : List Field → Candidate) → in_document look v ≡ None

-- what replaces the first of these documents after a value is set under the last one
abbrev pub set_inward : List Crossing → Candidate → Candidate
set_inward [] v = v
set_inward (c ∷ cs) v = Some (document (fields_of (set_under c.component.now (set_inward cs v) c.document)))

abbrev pub set_on_way : Way → Candidate → Row
set_on_way way v = set_under way.outermost.component.now (set_inward way.inner.items v) way.outermost.document

-- setting a value under the component's name gives the same document for both
abbrev pub AreLike : Crossing → Crossing → Type 0
AreLike c d = (v : Tree) → set_under c.component.now (Some v) c.document ≡ set_under d.component.now (Some v) d.document

-- whether two fields have the same name, and the same value if that isn't the given name
abbrev pub field_but : List ℕ → Field → Field → Bool
field_but name f g = bytes_eq f.0 g.0 && (bytes_eq f.0 name || is_same f.1 g.1)

-- whether this holds of the fields at each place that both documents have
abbrev pub fields_but : List ℕ → List Field → List Field → Bool
fields_but name d e = list_all (λ p. field_but name p.0 p.1) (zip d e)
