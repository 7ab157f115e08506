use Rattle.std.proofs.Common.{◌≡◌, ◌∙◌, ap, Ok, Err, rules}
use Rattle.dv_value.specs.View.{tree}
use Rattle.dv_value.specs.Results.{◌>>=◌}
use Rattle.dv_row.specs.ProjectParsing.{project_in, members_in, nothing_asked, project_form}
use Rattle.dv_row.proofs.Items.{some-fields}
use Rattle.dv_row.proofs.Members.{project-some}
use Rattle.dv_row.specs.Inner.EachLaws.{gives-fault}
use Rattle.dv_row.proofs.project.Project.parse.Goals as goal

pub returns-in_err-asked : goal.returns-in_err-asked
returns-in_err-asked c =
    let d = c.in-Doc.document in
    let e = c.in_err-asked.field-0.0 in
    let told : c.from_residual.result ≡ Err e = search (rules, c.from_residual.ensures) in
    let some = some-fields d c.is_empty.result c.is_empty.ensures c.if-is_empty.false in
    gives-fault _ c.from_residual.result e (members_in nothing_asked d) _ told c.in_err-asked.ensures
    (λ refused. ap (λ v. project_in (tree v)) c.in-Doc.is ∙ project-some d some ∙ ap (λ r. r >>= λ asked. Ok (project_form asked)) refused)

pub returns : goal.returns
returns c =
    let d = c.in-Doc.document in
    let some = some-fields d c.is_empty.result c.is_empty.ensures c.if-is_empty.false in
    rw (ap (λ v. project_in (tree v)) c.in-Doc.is ∙ project-some d some ∙ ap (λ r. r >>= λ asked. Ok (project_form asked)) c.in_ok-asked.ensures) c.into_project.ensures
