use Rattle.std.proofs.Common.{◌∙◌, ◌++◌, ◌∷◌, [], None, ap, sym}
use Rattle.dv_value.specs.Tree.{document, fields_of}
use Rattle.dv_value.specs.View.{tree}
use Rattle.dv_path.specs.Placing.{put_behind}
use Rattle.dv_path.proofs.Exchanged.{nested-one}
use Rattle.dv_path.proofs.placing.nested.Goals as goal

pub outward-preserved : goal.outward-preserved
outward-preserved c =
    let further = c.in-Some.further.now in
    let name = c.in-Some.component.now in
    let v = tree c.outward.inner in
    c.outward.invariant ∙ ap (λ p. put_behind p v None) c.in-Some.ensures.cases.0 ∙ nested-one further name v ∙ ap (λ fs. put_behind further (document (fields_of fs)) None) (sym (c.in_ok-add_field.ensures ∙ ap (λ fs. fs ++ (name, v) ∷ []) c.new-document.ensures))
