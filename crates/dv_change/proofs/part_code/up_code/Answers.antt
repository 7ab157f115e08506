use Rattle.std.proofs.Common.{arith}
use Rattle.dv_change.specs.Inner.PartCodes.{key_class_within}
use Rattle.dv_change.proofs.PartsAgain.{up_again}
use Rattle.dv_change.proofs.part_code.up_code.Goals as goal

pub returns-clause-exact : goal.returns-clause-exact
returns-clause-exact c =
    let code = c.code-code.result in
    λ e. up_again code.class code.high code.low _ (omega (arith, c.code-code.ensures.class, key_class_within c.args.key.now)) (c.code-code.ensures.exact e)
