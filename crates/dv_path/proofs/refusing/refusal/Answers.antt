use Rattle.std.proofs.Common.{◌≡◌, ◌∙◌, drop, None, Some, ap, sym}
use Rattle.std.specs.Result.{result_err}
use Rattle.dv_value.specs.Names.{value_under}
use Rattle.dv_value.specs.View.{tree}
use Rattle.dv_value.specs.Inner.ListLaws.{positive}
use Rattle.dv_path.specs.Placing.{put, put_behind}
use Rattle.dv_path.proofs.Refused.{refused-first, refused-missing}
use Rattle.dv_path.proofs.refusing.refusal.Goals as goal

pub returns-in_err-there : goal.returns-in_err-there
returns-in_err-there c = λ v.
    let names = c.components-components.result.now in
    let name = c.index-components-0.result in
    let d = c.args.document.now in
    let path = c.components-components.ensures.components in
    let some = positive names (λ none. c.components-components.ensures.some (sym path ∙ none)) in
    let none : None ≡ value_under name d = c.in_err-there.ensures ∙ ap (λ n. value_under n d) c.as_str.ensures.name in
    rw c.from_residual.ensures (refused-missing (drop 1 names) v (value_under name d) none ∙ refused-first names v d name some c.index-components-0.is ∙ ap (λ p. result_err (put d p v)) path)

pub returns : goal.returns
returns c = λ v.
    let names = c.components-components.result.now in
    let name = c.index-components-0.result in
    let d = c.args.document.now in
    let path = c.components-components.ensures.components in
    let some = positive names (λ none. c.components-components.ensures.some (sym path ∙ none)) in
    let there : Some (tree c.in_ok-there.there.now) ≡ value_under name d = c.in_ok-there.ensures ∙ ap (λ n. value_under n d) c.as_str.ensures.name in
    c.refusal_behind.ensures v ∙ ap (λ ns. result_err (put_behind ns v (Some (tree c.in_ok-there.there.now)))) c.behind.ensures ∙ ap (λ o. result_err (put_behind (drop 1 names) v o)) there ∙ refused-first names v d name some c.index-components-0.is ∙ ap (λ p. result_err (put d p v)) path
