use Rattle.std.proofs.Common.{◌∙◌, ◌∷◌, [], ap, sym}
use Rattle.std.specs.Str.{bytes_eq}
use Rattle.dv_row.specs.ProjectParsing.{one_begins}
use Rattle.dv_row.proofs.Members.{begins-name}
use Rattle.dv_row.proofs.asked.begins_with.Goals as goal

pub returns-in-Some : goal.returns-in-Some
returns-in-Some c =
    c.eq.ensures ∙ ap (λ n. bytes_eq n c.args.name.now) c.as_str.ensures.name ∙ sym (ap (λ p. one_begins p (c.args.name.now ∷ [])) c.in-Some.ensures.cases.0 ∙ begins-name c.in-Some.first.now c.args.name.now _)
