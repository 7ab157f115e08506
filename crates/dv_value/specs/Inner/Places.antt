-- The places of names, as a finite map.
use Rattle.std.specs.Prelude.{◌≡◌, ℕ, List, map}
use Rattle.std.specs.BTreeMap.{BTreeMap}
use Rattle.std.specs.Cmp.Lexicographic.{slice_cmp}
use Rattle.std.specs.FinMap as finite
use Rattle.std.specs.Ordering.{nat_cmp}
use Rattle.std.specs.declared.string.String.{String}
use Rattle.std.specs.String.{string_bytes}
use Rattle.dv_value.specs.Tree.{Field}
use Rattle.dv_value.specs.Names.{place_under}

-- from names to places, counted from 0
abbrev pub Places : Type 0
Places = finite.FinMap (slice_cmp nat_cmp) ℕ

-- the entries of a map under texts, under the texts' bytes
abbrev pub by_text : {X Y : Type 0} → BTreeMap (String Y) X → finite.FinMap (slice_cmp nat_cmp) X
by_text m = finite.from_entries (map (λ e. (string_bytes e.0, e.1)) m.entries)

abbrev pub places_of : {Y : Type 0} → BTreeMap (String Y) ℕ → Places
places_of m = by_text m

-- each name of the fields has its place, and no other name has one
pub record IsNameIndexOf (fs : List Field) (places : Places) : Type 0 where
  pub finds : (name : List ℕ) → finite.get places name ≡ place_under name fs
