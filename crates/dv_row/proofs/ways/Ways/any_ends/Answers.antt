use Rattle.std.proofs.Common.{◌∙◌, ap, nat_le, length}
use Rattle.std.specs.List.{list_any}
use Rattle.dv_row.specs.Projecting.{ends}
use Rattle.dv_row.proofs.Ordered.{first-ends}
use Rattle.dv_row.proofs.ways.Ways.any_ends.Goals as goal

pub returns-in-Some : goal.returns-in-Some
returns-in-Some c =
    ap (λ p. nat_le (length p) c.self.inside.depth) c.components.ensures.components ∙ first-ends c.self.inside.depth c.self.inside.paths.now c.in-Some.path.now c.self.invariant c.in-Some.ensures.value ∙ ap (list_any ends) c.self.view_is
