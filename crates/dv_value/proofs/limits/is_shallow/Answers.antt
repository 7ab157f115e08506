use Rattle.std.proofs.Common.{arith}
use Rattle.dv_value.specs.Tree.{document, fields_of}
use Rattle.dv_value.proofs.Shallow.{levels_within}
use Rattle.dv_value.proofs.limits.is_shallow.Goals as goal

pub returns-then-size-le-NEVER_TOO_DEEP : goal.returns-then-size-le-NEVER_TOO_DEEP
returns-then-size-le-NEVER_TOO_DEEP c =
    let shallow = levels_within (document (fields_of c.args.document.now)) in
    (λ small. omega (arith, shallow, c.requires, c.if-size-le-NEVER_TOO_DEEP.true), λ within. grind (arith, c.if-size-le-NEVER_TOO_DEEP.true))
