use Rattle.std.proofs.Common.{rules}
use Rattle.dv_candidates.specs.Candidates.{whole, leaves}
use Rattle.dv_candidates.specs.View.{seen}
use Rattle.dv_match.specs.Inner.Blocks.{no_marks}
use Rattle.dv_match.proofs.Marked.{marked-along}
use Rattle.dv_match.proofs.marks.marks_along.Goals as goal

pub returns : goal.returns
unfolding leaves
returns c =
    marked-along c.args.block.now seen _ (λ t x u h. search (rules, h.1, h)) (whole c.args.document.now c.args.path.now) no_marks c.in-Ok.marks c.in-Ok.ensures.outcome
