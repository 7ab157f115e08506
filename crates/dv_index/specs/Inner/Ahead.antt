-- Documents that a path sorts before a bar, and where it leads in them.
use Rattle.std.specs.Prelude.{◌≡◌, Bool, true, List, [], filter}
use Rattle.dv_value.specs.Tree.{Field}
use Rattle.dv_candidates.specs.Candidates.{whole}
use Rattle.dv_coll.specs.Collection.{id_key}
use Rattle.dv_match.specs.Filter.{Members}
use Rattle.dv_match.specs.Match.{matches}
use Rattle.dv_path.specs.SortKey.{sort_key}
use Rattle.dv_path.specs.SortSpec.{Part}
use Rattle.dv_keyed.specs.declared.before.Bar.{Bar}
use Rattle.dv_keyed.specs.Inner.Ahead.{stands_ahead}
use Rattle.dv_index.specs.Inner.Search.{AgreeOn}

-- whether a path sorts a document before a bar, in a direction; documents with equal keys ascend by their `_id`s
abbrev pub is_ahead : Part → Bar → List Field → Bool
is_ahead p bar d = stands_ahead p.1 bar (sort_key d p.0 p.1) (id_key d)

-- every document that matches a filter and that a path sorts before a bar is there
abbrev pub HasAllAhead : Part → Bar → Members → List (List Field) → List (List Field) → Type 0
HasAllAhead p bar ms ds all = AgreeOn (is_ahead p bar) ds (filter (matches ms) all)

-- the path leads to something in each document that matches a filter and that it sorts before a bar
abbrev pub LeadsSomewhere : Members → Part → Bar → Type 0
LeadsSomewhere ms p bar = (d : List Field) → matches ms d ≡ true → is_ahead p bar d ≡ true → whole d p.0 ≡ [] → ⊥
