-- The parts so far, before those of the fields that are left.
use Rattle.std.proofs.Common.{◌≡◌, ◌++◌, map}
use Rattle.std.specs.Option.{option_map}
use Rattle.dv_path.specs.Parts.{part}
use Rattle.dv_path.specs.SortSpec.{parts_of}
use Rattle.dv_path.proofs.sort_spec.parse_parts.Given as goal

abbrev pub invariant-fields : goal.invariant-fields
invariant-fields l = option_map (λ rest. map part l.parts.items ++ rest) (parts_of l.name-iterator) ≡ parts_of l.document
