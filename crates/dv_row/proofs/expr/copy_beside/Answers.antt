use Rattle.std.proofs.Common.{◌≡◌, ◌∙◌, ◌++◌, ◌∷◌, [], ap, sym, subst, Some, append_assoc, append-nil, rules}
use Rattle.dv_value.specs.Tree.{Field}
use Rattle.dv_value.specs.Names.{AreNamed}
use Rattle.dv_value.specs.View.{tree}
use Rattle.dv_row.specs.Expressions.{with_field_behind}
use Rattle.dv_row.proofs.Left.{copied-more}
use Rattle.dv_row.proofs.expr.copy_beside.Goals as goal

pub fields-preserved : goal.fields-preserved
fields-preserved c =
    let f : Field = (c.in-Some.name.now, tree c.in-Some.value.now) in
    let copy = c.fields.copy in
    let others = c.next.new.self in
    let step : c.fields.name-iterator ≡ f ∷ others = search rules in
    let whole : copy ++ f ∷ others ≡ c.args.document.now = ap (λ fs. copy ++ fs) (sym step) ∙ c.fields.invariant in
    let pushed = c.in_ok-push_field.ensures.ok ∙ ap (λ w. with_field_behind f.0 (Some (tree w)) copy) c.in_ok-try_clone.ensures ∙ copied-more copy f others (subst AreNamed (sym whole) c.iter-name-items.ensures.named) in
    ap (λ fs. fs ++ others) pushed ∙ append_assoc copy (f ∷ []) others ∙ whole

pub returns : goal.returns
returns c =
    let none : c.fields.name-iterator ≡ [] = search rules in
    sym (append-nil c.fields.copy) ∙ ap (λ fs. c.fields.copy ++ fs) (sym none) ∙ c.fields.invariant
