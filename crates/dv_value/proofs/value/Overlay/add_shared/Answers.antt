use Rattle.std.proofs.Common.{◌≡◌, ◌∙◌, false, ◌++◌, [], ◌∷◌, map, Some, refl, sym}
use Rattle.std.proofs.lemmas.List.{map-append}
use Rattle.dv_value.specs.Inner.Covers.{covered}
use Rattle.dv_value.specs.Names.{has_name}
use Rattle.dv_value.specs.Tree.{Field, null}
use Rattle.dv_value.specs.View.{covering}
use Rattle.dv_value.proofs.Overlaid.{has_name-covered, covered-push, AreCovered-push}
use Rattle.dv_value.proofs.value.Overlay.add_shared.Goals as goal

pub add-requires-clause-fresh : goal.add-requires-clause-fresh
add-requires-clause-fresh c =
    let fs = c.self.inside.fields in
    let cs = map covering c.self.inside.covers.items in
    let fresh : has_name c.args.name.now (covered fs cs) ≡ false = rw c.self.view_is c.requires.fresh in
    sym (has_name-covered c.args.name.now fs cs) ∙ fresh

pub invariant_of-self-2 : goal.invariant_of-self-2
invariant_of-self-2 c =
    let fs = c.self.inside.fields in
    let covers = c.self.inside.covers.items in
    let f : Field = (c.args.name.now, null) in
    let more : map covering c.push.new.self.items ≡ map covering covers ++ (Some c.args.text) ∷ [] = rw (c.in_ok-push.ensures.items, c.in_ok-reserve.ensures.items) (map-append covering covers _) in
    rw (c.in_ok-add.ensures.ok, more) (AreCovered-push fs (map covering covers) f (Some c.args.text) c.self.invariant refl)

pub returns-clause-ok : goal.returns-clause-ok
returns-clause-ok c =
    let fs = c.self.inside.fields in
    let covers = c.self.inside.covers.items in
    let f : Field = (c.args.name.now, null) in
    let more : map covering c.push.new.self.items ≡ map covering covers ++ (Some c.args.text) ∷ [] = rw (c.in_ok-push.ensures.items, c.in_ok-reserve.ensures.items) (map-append covering covers _) in
    rw (← c.self.view_is, c.in_ok-add.ensures.ok, more) (covered-push fs (map covering covers) f (Some c.args.text) c.self.invariant)
