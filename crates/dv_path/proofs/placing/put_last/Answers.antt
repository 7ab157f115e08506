use Rattle.std.proofs.Common.{◌≡◌, ◌∙◌, ◌++◌, ◌∷◌, [], List, Some, None, ap, sym, subst, OnOk, if◌then◌else◌}
use Rattle.std.specs.Option.{option_map}
use Rattle.dv_value.specs.Names.{has_name, with_value_under}
use Rattle.dv_value.specs.Tree.{Field}
use Rattle.dv_value.specs.View.{tree}
use Rattle.dv_path.specs.Placing.{with_field}
use Rattle.dv_path.proofs.Exchanged.{put-in-place, put-at-end, none-back, given-back}
use Rattle.dv_path.proofs.placing.put_last.Goals as goal

pub returns-in-None : goal.returns-in-None
returns-in-None c =
    let name = c.args.component.now in
    let fields = c.args.document.now in
    let v = tree c.args.value in
    let told : option_map tree c.in_ok-put.field-0 ≡ (if has_name name fields then None else Some v) = rw c.as_str.ensures.name at c.in_ok-put.ensures.back in
    let put : c.put.new.self ≡ with_value_under name v fields = rw c.as_str.ensures.name at c.in_ok-put.ensures.ok in
    put ∙ put-in-place name v fields (none-back (has_name name fields) v (ap (option_map tree) (sym c.in-None.is) ∙ told))

pub add_field-requires : goal.add_field-requires
add_field-requires c =
    let name = c.args.component.now in
    let fields = c.args.document.now in
    let v = tree c.args.value in
    let told : option_map tree c.in_ok-put.field-0 ≡ (if has_name name fields then None else Some v) = rw c.as_str.ensures.name at c.in_ok-put.ensures.back in
    let put : c.put.new.self ≡ with_value_under name v fields = rw c.as_str.ensures.name at c.in_ok-put.ensures.ok in
    let back = given-back (has_name name fields) (tree c.in-Some.value) v (ap (option_map tree) (sym c.in-Some.is) ∙ told) in
    ap (has_name name) (put ∙ (put-at-end name v fields back.0).0) ∙ back.0

pub returns-in-Some : goal.returns-in-Some
returns-in-Some c =
    let name = c.args.component.now in
    let fields = c.args.document.now in
    let v = tree c.args.value in
    let told : option_map tree c.in_ok-put.field-0 ≡ (if has_name name fields then None else Some v) = rw c.as_str.ensures.name at c.in_ok-put.ensures.back in
    let put : c.put.new.self ≡ with_value_under name v fields = rw c.as_str.ensures.name at c.in_ok-put.ensures.ok in
    let back = given-back (has_name name fields) (tree c.in-Some.value) v (ap (option_map tree) (sym c.in-Some.is) ∙ told) in
    let end = put-at-end name v fields back.0 in
    let at-end : c.put.new.self ++ (name, tree c.in-Some.value) ∷ [] ≡ with_field name (Some v) fields = ap (λ (fs : List Field). fs ++ (name, tree c.in-Some.value) ∷ []) (put ∙ end.0) ∙ ap (λ w. fields ++ (name, w) ∷ []) back.1 ∙ end.1 in
    subst (λ (fs : List Field). OnOk c.add_field.result (c.add_field.new.document ≡ fs)) at-end c.add_field.ensures
