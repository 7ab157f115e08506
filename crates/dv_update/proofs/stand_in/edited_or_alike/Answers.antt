use Rattle.std.proofs.Common.{◌≡◌, ◌≤◌, ◌∙◌, ap, ap₂, sym, map, rules}
use Rattle.dv_value.specs.Spelling.{levels}
use Rattle.dv_value.specs.Tree.{document, fields_of}
use Rattle.dv_update.specs.Apply.{checked, edited}
use Rattle.dv_value.specs.Results.{◌>>=◌}
use Rattle.dv_update.specs.View.{edit}
use Rattle.dv_update.proofs.StandingIn.{likewise_stands}
use Rattle.dv_update.proofs.stand_in.edited_or_alike.Goals as goal

pub returns-in-Some : goal.returns-in-Some
returns-in-Some c =
    let old = c.args.document.now in
    let made = edited (map edit c.as_slice-all.result.now) c.in_ok-try_clone.field-0 in
    let is : made ≡ edited c.args.edits.now old = ap₂ edited c.as_slice-all.ensures c.in_ok-try_clone.ensures in
    let within : levels (document (fields_of old)) ≤ 100 = (c.fits.ensures.0 (search rules)).depth in
    ap (λ r. r >>= checked old) (sym is) ∙ likewise_stands old made c.in_ok-standing.field-0 c.in-Some.standing c.in-Some.is c.in_ok-standing.ensures within
