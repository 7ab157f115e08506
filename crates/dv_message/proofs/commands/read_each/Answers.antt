use Rattle.std.proofs.Common.{arith}
use Rattle.std.proofs.lemmas.Result.{err_from_is_err_and}
use Rattle.dv_message.specs.Inner.SectionsView.{framed_seen}
use Rattle.dv_message.proofs.Reading.{checked_is, nothing_kept, one_kept, one_checked, refused_as, stops_here}
use Rattle.dv_message.proofs.commands.read_each.Goals as goal

pub documents-init : goal.documents-init
documents-init c = rw c.new-read.ensures.items (nothing_kept c.args.most (framed_seen c.args.documents))

pub returns-in_err-document : goal.returns-in_err-document
returns-in_err-document c =
    let p = err_from_is_err_and c.from_residual.result c.from_residual.ensures.1 in
    rw (p.1, p.2)
    (stops_here c.args.most (framed_seen c.args.documents) (framed_seen c.documents.rest) c.documents.read.items c.documents.invariant c.in-Some.document.now (framed_seen c.in-Some.others) c.in-Some.ensures
    c.in_err-document.field-0.0 c.in_err-document.ensures)

pub returns-in_err-check_document : goal.returns-in_err-check_document
returns-in_err-check_document c =
    let p = err_from_is_err_and c.from_residual-in_err-check_document.result c.from_residual-in_err-check_document.ensures.1 in
    let document = c.in-Some.document.now in
    let fault = c.in_err-check_document.field-0.0 in
    rw (p.1, p.2)
    (stops_here c.args.most (framed_seen c.args.documents) (framed_seen c.documents.rest) c.documents.read.items c.documents.invariant document (framed_seen c.in-Some.others) c.in-Some.ensures
    fault (refused_as document fault c.in_err-check_document.ensures.refused))

pub documents-preserved-in_ok-push : goal.documents-preserved-in_ok-push
documents-preserved-in_ok-push c =
    one_kept c.args.most (framed_seen c.args.documents) (framed_seen c.documents.rest) c.documents.read.items c.documents.invariant c.in-Some.document.now (framed_seen c.in-Some.others) c.in-Some.ensures
    c.in_ok-document.document c.push.new.self.items c.in_ok-document.ensures (omega arith) c.in_ok-push.ensures.items

pub documents-preserved : goal.documents-preserved
documents-preserved c =
    let (fields, is) = c.in_ok-check_document.ensures.exact in
    one_checked c.args.most (framed_seen c.args.documents) (framed_seen c.documents.rest) c.documents.read.items c.documents.invariant c.in-Some.document.now (framed_seen c.in-Some.others) c.in-Some.ensures
    fields (checked_is c.in-Some.document.now fields c.in_ok-check_document.field-0 is) (omega arith)
