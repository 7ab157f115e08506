-- Their names are distinct, so that all others have the same values.
use Rattle.std.proofs.Common.{◌≡◌, ◌∙◌, length, sym, arith}
use Rattle.dv_row.proofs.Alike.{same-with}
use Rattle.dv_row.proofs.way.same_but_under.Goals as goal

pub returns-then-len : goal.returns-then-len
returns-then-len c =
    let long : length c.args.document.now ≡ length c.args.other.now = omega (arith, c.len.ensures.len, c.len-2.ensures.len, c.if-len.true) in
    λ same. same-with c.args.name.now c.args.document.now c.args.other.now c.len.ensures.named long (sym c.same_fields_but.ensures ∙ same)
