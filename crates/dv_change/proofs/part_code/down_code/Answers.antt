use Rattle.std.proofs.Common.{arith}
use Rattle.std.proofs.lemmas.Bool.Decides.{nat_tests}
use Rattle.dv_change.specs.Inner.PartCodes.{key_class_within}
use Rattle.dv_change.proofs.PartsAgain.{down_again}
use Rattle.dv_change.proofs.part_code.down_code.Goals as goal

pub returns-then-code-clause-exact : goal.returns-then-code-clause-exact
returns-then-code-clause-exact c =
    let code = c.code-code.result in
    λ e. down_again code.class code.high code.low _ (omega (arith, c.code-code.ensures.class, key_class_within c.args.key.now)) (grind (arith, c.code-code.type_inv)) (grind (arith, nat_tests, e)) (c.code-code.ensures.exact c.if-code.true)
