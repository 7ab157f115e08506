use Rattle.std.proofs.Common.{◌≡◌, arith}
use Rattle.std.proofs.lemmas.Slice.Eq.{bytes_eq-Decides}
use Rattle.dv_value.specs.View.{tree}
use Rattle.dv_gather.proofs.NamedAlike.{next-name}
use Rattle.dv_gather.proofs.alike.has_names_of.Goals as goal

pub returns-clause-names : goal.returns-clause-names
returns-clause-names c =
    let next = c.field.result.0.now in
    let same : next ≡ c.args.name.now = grind (arith, c.ne.ensures, c.if-ne.false, (bytes_eq-Decides next c.args.name.now).0) in
    λ yes. next-name c.args.document.now c.args.row.now c.len-place.result c.args.name.now next (tree c.field.result.1.now) (c.begins_as.ensures yes) c.len-place.ensures.len c.field.ensures same
