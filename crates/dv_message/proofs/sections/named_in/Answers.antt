use Rattle.std.proofs.Common.{sym, ap, ◌∙◌, refl}
use Rattle.std.proofs.lemmas.Str.{is_utf8-from_IsUtf8}
use Rattle.dv_message.specs.Sections.{section_under, section_named}
use Rattle.dv_message.proofs.sections.named_in.Goals as goal
use Rattle.dv_bson.specs.Inner.CutLaws.{is_utf8-false}

pub returns-in-Ok : goal.returns-in-Ok
returns-in-Ok c =
    sym (ap section_named (sym c.in_ok-name.ensures) ∙ ap (section_under c.in_ok-name.name.now) (sym c.in_ok-documents.ensures)
    ∙ rw (is_utf8-from_IsUtf8 c.in_ok-name.name.now c.in-Ok.ensures.cases.1, c.in-Ok.ensures.cases.0) refl)

pub returns-in-Err : goal.returns-in-Err
returns-in-Err c =
    sym (ap section_named (sym c.in_ok-name.ensures) ∙ ap (section_under c.in_ok-name.name.now) (sym c.in_ok-documents.ensures)
    ∙ rw (is_utf8-false c.in_ok-name.name.now c.in-Err.ensures.cases.0) refl)
