-- The outermost ones are like each other, and so are those in them.
use Rattle.std.proofs.Common.{◌∙◌, ap, sym, Some, rules}
use Rattle.dv_row.specs.Inner.Crossings.{set_inward}
use Rattle.dv_row.proofs.Alike.{like-way}
use Rattle.dv_row.proofs.way.Way.is_like.Goals as goal

pub returns-then-is_like : goal.returns-then-is_like
returns-then-is_like c = λ like.
    like-way c.args.self.now c.args.other.now (c.is_like.ensures (search rules)) (λ v.
    ap (λ cs. set_inward cs (Some v)) (sym c.as_slice.ensures.value)
    ∙ c.are_like.ensures like v
    ∙ ap (λ cs. set_inward cs (Some v)) c.as_slice-then-is_like.ensures.value)
