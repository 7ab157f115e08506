use Rattle.std.proofs.Common.{◌∙◌, ◌∷◌, [], ap, sym, refl, subst}
use Rattle.dv_value.specs.Tree.{document, fields_of}
use Rattle.dv_value.specs.View.{tree}
use Rattle.dv_candidates.specs.Candidates.{step_from}
use Rattle.dv_candidates.specs.View.{seen}
use Rattle.dv_candidates.specs.Ways.{HasNoArray}
use Rattle.dv_candidates.proofs.Asked.{seen-at, step-document}
use Rattle.dv_candidates.proofs.Clear.{nothing-stands, clear-entered}
use Rattle.dv_candidates.proofs.Walks.{plain-step}
use Rattle.dv_candidates.proofs.sole.next.Goals as goal

pub returns-in_default-clause-on : goal.returns-in_default-clause-on
returns-in_default-clause-on c = λ names clear. nothing-stands names

pub returns-in-Doc-clause-sole : goal.returns-in-Doc-clause-sole
returns-in-Doc-clause-sole c =
    step-document c.args.candidate c.in-Found.value c.in-Found.is c.args.component.now c.in-Doc.document c.in-Doc.is ∙ ap (λ v. v ∷ []) (sym c.field.ensures)

pub returns-in-Doc-clause-on : goal.returns-in-Doc-clause-on
returns-in-Doc-clause-on c = λ names clear.
    let name = c.args.component.now in
    let here = seen-at c.args.candidate c.in-Found.value c.in-Found.is (document (fields_of c.in-Doc.document)) (ap tree c.in-Doc.is) in
    subst (HasNoArray names) (sym c.field.ensures) (clear-entered names name c.in-Doc.document (subst (HasNoArray (name ∷ names)) here clear))

pub returns-in_default-value : goal.returns-in_default-value
returns-in_default-value c = record {
  sole = ap (λ x. step_from c.args.component.now (seen x)) c.in-Found.is ∙ plain-step c.in-Found.value.now c.args.component.now c.in_default-value.not-Doc c.in_default-value.not-Array;
  some = λ names clear. refl;
  on = λ names clear. nothing-stands names;
}
