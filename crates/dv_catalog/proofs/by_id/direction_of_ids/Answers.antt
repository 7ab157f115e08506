use Rattle.std.proofs.Common.{◌∙◌, ◌∷◌, codes, ap, sym}
use Rattle.dv_catalog.proofs.ById.{id-alone}
use Rattle.dv_catalog.proofs.Foremost.{first-part}
use Rattle.dv_catalog.proofs.by_id.direction_of_ids.Goals as goal

pub returns-then-is_id : goal.returns-then-is_id
returns-then-is_id c =
    let by = c.in_ok-by.by.now in
    let first = first-part c.parts.result.now by c.args.sort.now c.parts.ensures (sym c.in_ok-by.ensures.value) in
    let path = id-alone by.path (codes "_id") (sym c.is_id.ensures ∙ c.if-is_id.true) in
    (first.0, first.1 ∙ ap (λ p. (p, by.direction) ∷ first.0) path)
