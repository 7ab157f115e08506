use Rattle.std.proofs.Common.{◌≡◌, ◌<◌, length, rules, sym}
use Rattle.dv_message.proofs.Frames.{frames_advance}
use Rattle.dv_message.proofs.Walked.{none_passed, one_passed, all_passed, not_passed}
use Rattle.dv_message.proofs.framed.Framed.of.Goals as goal

pub documents-init : goal.documents-init
documents-init c = none_passed c.args.bytes.now

pub returns-in_default : goal.returns-in_default
returns-in_default c =
    let some : 0 < length c.documents.rest.now = search rules in
    sym (not_passed c.args.bytes.now c.documents.rest.now c.documents.invariant (sym c.in_default.ensures) some)

pub documents-smaller : goal.documents-smaller
documents-smaller c = frames_advance.shorter c.documents.rest.now _ c.in-Some.behind.now (sym c.in-Some.ensures)

pub documents-preserved : goal.documents-preserved
documents-preserved c = one_passed c.args.bytes.now c.documents.rest.now c.documents.invariant _ c.in-Some.behind.now (sym c.in-Some.ensures)

pub returns : goal.returns
returns c =
    let none : length c.documents.rest.now ≡ 0 = search rules in
    all_passed c.args.bytes.now c.documents.rest.now c.documents.invariant none
