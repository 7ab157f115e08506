use Rattle.std.proofs.Common.{◌<◌, length, map, arith}
use Rattle.std.proofs.lemmas.List.{length-map, map-set}
use Rattle.dv_value.specs.declared.value.Cover.TheVariants.{Absent}
use Rattle.dv_value.specs.Inner.Covers.{covered}
use Rattle.dv_value.specs.View.{tree, covering}
use Rattle.dv_value.proofs.Overlaid.{length-covered, length-covers, covered-put, AreCovered-put}
use Rattle.dv_value.proofs.value.Overlay.put_at.Goals as goal

pub put_at-requires : goal.put_at-requires
put_at-requires c =
    let fs = c.self.inside.fields in
    let cs = map covering c.self.inside.covers.items in
    let within : c.args.place < length (covered fs cs) = rw c.self.view_is c.requires in
    omega (arith, within, length-covered fs cs)

pub index_mut-requires : goal.index_mut-requires
index_mut-requires c =
    let fs = c.self.inside.fields in
    let covers = c.self.inside.covers in
    let cs = map covering covers.items in
    let within : c.args.place < length (covered fs cs) = rw c.self.view_is c.requires in
    omega (arith, within, length-covered fs cs, length-covers fs cs c.self.invariant, length-map covers.items covering, covers.ok.0)

pub invariant_of-self : goal.invariant_of-self
invariant_of-self c =
    rw (c.put_at.ensures, map-set covering c.self.inside.covers.items c.args.place Absent) (AreCovered-put (tree c.args.value) c.args.place c.self.inside.fields (map covering c.self.inside.covers.items) c.self.invariant)

pub returns : goal.returns
returns c =
    rw (← c.self.view_is, c.put_at.ensures, map-set covering c.self.inside.covers.items c.args.place Absent) (covered-put (tree c.args.value) c.args.place c.self.inside.fields (map covering c.self.inside.covers.items) c.self.invariant)
