use Rattle.std.proofs.Common.{◌≡◌, false, ◌++◌, [], ◌∷◌, length, map, sym, ◌∙◌, arith}
use Rattle.std.specs.List.{zip}
use Rattle.std.proofs.lemmas.List.{length-map, map-append}
use Rattle.dv_value.specs.Names.{has_name}
use Rattle.dv_value.specs.View.{tree}
use Rattle.dv_value.proofs.Zipped.{has_name-zip, zip-more}
use Rattle.dv_value.proofs.value.Fields.add.Goals as goal

pub put_name-requires-clause-fresh : goal.put_name-requires-clause-fresh
put_name-requires-clause-fresh c =
    let names = c.self.inside.names.value in
    let values = c.self.inside.values.items in
    let count : c.len.result ≡ length (map tree values) = omega (arith, c.len.ensures, c.in_ok-reserve.ensures.len, c.self.inside.values.ok.0, length-map values tree) in
    let fresh : has_name c.args.name.now (zip names (map tree values)) ≡ false = rw c.self.view_is c.requires.fresh in
    rw count (sym (has_name-zip c.args.name.now names (map tree values) (rw length-map c.self.invariant)) ∙ fresh)

pub returns-clause-ok : goal.returns-clause-ok
returns-clause-ok c =
    let names = c.self.inside.names.value in
    let values = c.self.inside.values.items in
    let count : c.len.result ≡ length (map tree values) = omega (arith, c.len.ensures, c.in_ok-reserve.ensures.len, c.self.inside.values.ok.0, length-map values tree) in
    let items : map tree c.push.new.self.items ≡ map tree values ++ tree c.args.value ∷ [] = rw (c.in_ok-push.ensures.items, c.in_ok-reserve.ensures.items) (map-append tree values _) in
    let grown = rw count at c.in_ok-put_name.ensures.ok in
    rw (← c.self.view_is, items) (zip-more names c.put_name.new.names.value (map tree values) c.args.name.now (tree c.args.value) (rw length-map c.self.invariant) grown)
