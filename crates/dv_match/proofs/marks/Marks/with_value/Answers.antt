use Rattle.std.proofs.Common.{Some, None, sym, arith}
use Rattle.std.proofs.Math.Bool.{or-false}
use Rattle.dv_value.specs.View.{tree}
use Rattle.dv_match.specs.Inner.Blocks.{has}
use Rattle.dv_match.proofs.Marked.{marked-one}
use Rattle.dv_match.proofs.marks.Marks.with_value.Goals as goal

pub with-requires : goal.with-requires
with-requires c = omega (arith, c.in-Some.ensures.within, c.requires.few)

pub returns-in-Some : goal.returns-in-Some
returns-in-Some c = marked-one c.args.block.now (tree c.args.value.now) (Some c.in-Some.place) c.args.self c.with.result c.in-Some.ensures c.with.ensures

pub returns-in-None : goal.returns-in-None
returns-in-None c = marked-one c.args.block.now (tree c.args.value.now) None c.args.self c.args.self c.in-None.ensures (λ k. sym (or-false (has c.args.self k)))
