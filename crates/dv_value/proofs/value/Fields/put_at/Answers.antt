use Rattle.std.proofs.Common.{◌<◌, length, map, arith}
use Rattle.std.specs.List.{zip}
use Rattle.std.proofs.lemmas.List.{length-map, map-set}
use Rattle.std.proofs.lemmas.Slice.Zip.{length-zip}
use Rattle.dv_value.specs.View.{tree}
use Rattle.dv_value.proofs.Changed.{zip-at}
use Rattle.dv_value.proofs.value.Fields.put_at.Goals as goal

pub index_mut-requires : goal.index_mut-requires
index_mut-requires c =
    let names = c.self.inside.names.value in
    let values = c.self.inside.values in
    let within : c.args.place < length (zip names (map tree values.items)) = rw c.self.view_is c.requires in
    omega (arith, within, length-zip names (map tree values.items), length-map values.items tree, values.ok.0)

pub returns : goal.returns
returns c =
    let names = c.self.inside.names.value in
    let values = c.self.inside.values.items in
    rw (← c.self.view_is, map-set tree values c.args.place c.args.value) (zip-at (tree c.args.value) c.args.place names (map tree values))
