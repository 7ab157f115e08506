use Rattle.std.proofs.Common.{◌≡◌, ◌<◌, ◌≤◌, length, map, arith, rules}
use Rattle.std.specs.List.{zip}
use Rattle.std.proofs.lemmas.List.{length-map}
use Rattle.std.proofs.lemmas.Slice.Zip.{length-zip}
use Rattle.dv_value.specs.View.{tree}
use Rattle.dv_value.proofs.Changed.{zip-at, length-put}
use Rattle.dv_value.proofs.value.Fields.copy_with.Goals as goal

pub copies_with-requires : goal.copies_with-requires
copies_with-requires c =
    let names = c.self.inside.names.value in
    let values = c.self.inside.values.items in
    let within : c.args.place < length (zip names (map tree values)) = rw c.self.view_is c.requires in
    omega (arith, within, length-zip names (map tree values), length-map values tree)

pub invariant_of-result : goal.invariant_of-result
invariant_of-result c =
    let values = c.self.inside.values.items in
    let copies = c.in_ok-copies_with.field-0.items in
    let names : c.in_ok-clone.field-0.value ≡ c.self.inside.names.value = search rules in
    let same : length (map tree copies) ≡ length (map tree values) = rw c.in_ok-copies_with.ensures (length-put (tree c.args.value) c.args.place (map tree values)) in
    let fits : length copies ≤ length c.in_ok-clone.field-0.value = rw names (omega (arith, same, length-map values tree, length-map copies tree, c.self.invariant)) in
    fits

pub returns : goal.returns
returns c =
    let values = c.self.inside.values.items in
    let names : c.in_ok-clone.field-0.value ≡ c.self.inside.names.value = search rules in
    rw (names, c.in_ok-copies_with.ensures, ← c.self.view_is) (zip-at (tree c.args.value) c.args.place c.self.inside.names.value (map tree values))
