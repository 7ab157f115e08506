-- What the store in memory stands for.
use Rattle.std.specs.Prelude.{map}
use Rattle.std.specs.BTreeMap.{BTreeMap}
use Rattle.std.specs.FinMap as finite
use Rattle.std.specs.declared.string.String.{String}
use Rattle.std.specs.String.{string_bytes}
use Rattle.dv_catalog.specs.State.{Collection, Standing, collection, Namespaces}

abbrev pub standing_seen : Collection → Standing
standing_seen c = collection c

-- what a map has under namespaces, by the bytes of the namespaces
abbrev pub standing_by_namespace : {Y : Type 0} → BTreeMap (String Y) Collection → Namespaces
standing_by_namespace m = finite.from_entries (map (λ e. (string_bytes e.0, standing_seen e.1)) m.entries)
