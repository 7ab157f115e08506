use Rattle.std.proofs.Common.{◌≡◌, ◌-◌, true, false, drop, length, take, sym, ◌∙◌, inl, inr}
use Rattle.std.proofs.lemmas.List.{take_rest}
use Rattle.std.specs.Str.{is_utf8}
use Rattle.dv_command.specs.Asked.{command_name}
use Rattle.dv_message.proofs.FirstName.{no_name, not_hidden, is_shown, is_text_shown}
use Rattle.dv_message.proofs.commands.first_name_in.Goals as goal
use Rattle.dv_message.proofs.commands.first_name_in.Goals.{then-document-lt6-via-then-document-lt6, then-document-lt6-via-else-document-lt6+then-document-eq0}
use Rattle.dv_bson.specs.Inner.CutLaws.{is_utf8-false}

pub returns-then-document-lt6 : goal.returns-then-document-lt6
returns-then-document-lt6 c fields e =
    let document = c.args.document.now in
    elim c.then-document-lt6.branch [
      | then-document-lt6-via-then-document-lt6 w ↦ no_name document fields (inl w.if-document-lt6.true) e
      | then-document-lt6-via-else-document-lt6+then-document-eq0 w ↦ no_name document fields (inr w.if-document-eq0.true) e
    ]

pub returns-in_default : goal.returns-in_default
returns-in_default c fields e =
    let document = c.args.document.now in
    absurd (not_hidden document (take (length document - 5) (drop 5 document)) fields (take_rest document 5) c.if-document-eq0.false e c.in_default.ensures)

pub returns-in-Ok : goal.returns-in-Ok
returns-in-Ok c fields e =
    let document = c.args.document.now in
    let shown : c.in-Some.name.now ≡ command_name fields =
    is_shown document (take (length document - 5) (drop 5 document)) fields (take_rest document 5) c.if-document-eq0.false e c.in-Some.name.now c.in-Some.field-0-1.now c.in-Some.ensures in
    cc (shown, c.in-Ok.ensures.cases.0)

pub returns-in-Err : goal.returns-in-Err
returns-in-Err c fields e =
    let document = c.args.document.now in
    let text : is_utf8 c.in-Some.name.now ≡ true =
    is_text_shown document (take (length document - 5) (drop 5 document)) fields (take_rest document 5) c.if-document-eq0.false e c.in-Some.name.now c.in-Some.field-0-1.now c.in-Some.ensures in
    let both : true ≡ false = sym text ∙ is_utf8-false c.in-Some.name.now c.in-Err.ensures.cases.0 in
    absurd cc
