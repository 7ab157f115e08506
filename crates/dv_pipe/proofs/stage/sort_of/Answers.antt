use Rattle.std.proofs.Common.{◌∙◌, ap, sym, inr}
use Rattle.dv_value.specs.View.{tree}
use Rattle.dv_value.specs.Inner.TreeLaws.{fields_again}
use Rattle.dv_path.specs.SortSpec.{sort_spec_of}
use Rattle.dv_pipe.specs.StageParsing.{sort_in, sort_or_fault}
use Rattle.dv_pipe.proofs.stage.sort_of.Goals as goal

pub returns-in-Some : goal.returns-in-Some
returns-in-Some c = ap (λ v. sort_in (tree v)) c.in-Doc.is ∙ ap (λ fs. sort_or_fault (sort_spec_of fs)) (fields_again c.in-Doc.document) ∙ ap sort_or_fault (sym c.in_ok-spec.ensures ∙ c.in-Some.is)

pub returns-in-None : goal.returns-in-None
returns-in-None c = inr (ap (λ v. sort_in (tree v)) c.in-Doc.is ∙ ap (λ fs. sort_or_fault (sort_spec_of fs)) (fields_again c.in-Doc.document) ∙ ap sort_or_fault (sym c.in_ok-spec.ensures ∙ c.in-None.is))
