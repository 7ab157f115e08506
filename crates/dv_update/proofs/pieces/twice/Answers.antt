use Rattle.std.proofs.Common.{◌≡◌, ◌∙◌, ap, ◌++◌, ◌∷◌, [], length, arith}
use Rattle.dv_value.specs.Spelling.{spelling}
use Rattle.dv_value.specs.Tree.{Field}
use Rattle.dv_value.specs.View.{tree}
use Rattle.dv_update.proofs.pieces.twice.Goals as goal

pub returns : goal.returns
returns c =
    let v = tree c.args.value in
    let first : Field = ([], v) in
    let second : Field = (c.args.name.now, v) in
    let is : c.keep_size.new.self ≡ first ∷ second ∷ [] = c.keep_size.ensures ∙ c.in_ok-add.ensures.ok ∙ ap (λ d. d ++ second ∷ []) c.in_ok-document.ensures in
    omega (arith, ap (λ d. length (spelling d)) is, c.what_a_field_adds.ensures.more first (second ∷ []), c.what_a_field_adds.ensures.more second [], c.what_a_field_adds.ensures.nothing)
