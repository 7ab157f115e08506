use Rattle.std.proofs.Common.{◌<◌, length, map, ap, arith}
use Rattle.std.proofs.lemmas.List.{length-map, map-set}
use Rattle.dv_value.specs.declared.value.Cover.TheVariants.{Absent}
use Rattle.dv_value.specs.Inner.Covers.{covered}
use Rattle.dv_value.specs.View.{tree, covering}
use Rattle.dv_value.proofs.Overlaid.{length-covered, length-covers, covered-put, AreCovered-put}
use Rattle.dv_value.proofs.value.Overlay.copy_with.Goals as goal

pub copy_with-requires : goal.copy_with-requires
copy_with-requires c =
    let fs = c.self.inside.fields in
    let cs = map covering c.self.inside.covers.items in
    let within : c.args.place < length (covered fs cs) = rw c.self.view_is c.requires in
    omega (arith, within, length-covered fs cs)

pub index_mut-requires : goal.index_mut-requires
index_mut-requires c =
    let fs = c.self.inside.fields in
    let covers = c.self.inside.covers.items in
    let copies = c.in_ok-covers.covers in
    let cs = map covering covers in
    let within : c.args.place < length (covered fs cs) = rw c.self.view_is c.requires in
    let same = ap length c.in_ok-covers.ensures in
    omega (arith, within, length-covered fs cs, length-covers fs cs c.self.invariant, same, length-map copies.items covering, copies.ok.0)

pub invariant_of-result : goal.invariant_of-result
invariant_of-result c =
    rw (c.in_ok-fields.ensures, map-set covering c.in_ok-covers.covers.items c.args.place Absent, c.in_ok-covers.ensures) (AreCovered-put (tree c.args.value) c.args.place c.self.inside.fields (map covering c.self.inside.covers.items) c.self.invariant)

pub returns : goal.returns
returns c =
    rw (c.in_ok-fields.ensures, map-set covering c.in_ok-covers.covers.items c.args.place Absent, c.in_ok-covers.ensures, ← c.self.view_is) (covered-put (tree c.args.value) c.args.place c.self.inside.fields (map covering c.self.inside.covers.items) c.self.invariant)
