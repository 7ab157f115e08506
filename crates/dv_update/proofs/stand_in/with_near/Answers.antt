use Rattle.std.proofs.Common.{◌≡◌, ◌-◌, length, Err, rules}
use Rattle.dv_path.specs.Slots.{slot}
use Rattle.dv_update.specs.Apply.{edit_at}
use Rattle.dv_update.specs.Inner.StandIn.{PullsShallow}
use Rattle.dv_update.specs.View.{operation}
use Rattle.dv_update.proofs.StandingIn.{becomes_refused, near_made, near_refused}
use Rattle.dv_update.proofs.stand_in.with_near.Goals as goal

pub returns-in_err-document : goal.returns-in_err-document
returns-in_err-document c = λ made alike.
    let path = c.args.edit.now.path in
    let o = operation c.args.edit.now.operation in
    let fault = c.in_err-document.field-0.0 in
    let told : c.from_residual.result ≡ Err fault = search (rules, c.from_residual.ensures) in
    let shallow : PullsShallow (300 - length path) o (slot c.args.document path) = c.pulls_shallow.ensures (search rules) in
    becomes_refused c.from_residual.result fault (edit_at path o made) told (near_refused path o c.requires.some c.requires.near c.requires.other made c.args.document shallow alike fault c.in_err-document.ensures)

pub returns : goal.returns
returns c = λ made alike.
    let path = c.args.edit.now.path in
    let o = operation c.args.edit.now.operation in
    let shallow : PullsShallow (300 - length path) o (slot c.args.document path) = c.pulls_shallow.ensures (search rules) in
    near_made path o c.requires.some c.requires.near c.requires.other made c.args.document shallow alike c.in_ok-document.document c.in_ok-document.ensures
