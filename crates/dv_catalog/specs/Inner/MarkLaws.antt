-- Marks after no changes.
use Rattle.std.proofs.Common.{◌≡◌, ◌∙◌, ap, arith, inl, inr, refl}
use Rattle.dv_views.specs.Flow.{nothing}
use Rattle.dv_catalog.specs.Marks.{IsMarkedBy, Mark, live, mark_counted, stale}

pub nothing_counted : (mark : Mark) → mark_counted nothing mark ≡ mark
nothing_counted (live ticks) = ap live (omega arith)
nothing_counted stale = refl

pub one_unmarked : (before after : Mark) → IsMarkedBy nothing before after → after ≡ before
one_unmarked before after (inl is) = is ∙ nothing_counted before
one_unmarked before after (inr struck) = absurd (cc struck.reached)
