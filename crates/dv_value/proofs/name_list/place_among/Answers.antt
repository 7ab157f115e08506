use Rattle.std.proofs.Common.{◌≡◌, ◌<◌, ℕ, List, length, get_or, ◌+◌, ◌∷◌, drop, sym, ap, ◌∙◌, arith}
use Rattle.std.proofs.lemmas.Grind.{common_steps}
use Rattle.std.proofs.lemmas.List.{drop_more}
use Rattle.dv_value.proofs.name_list.place_among.Goals as goal
use Rattle.dv_value.specs.Inner.ByteLaws.{bytes_eq-symmetric}

-- what is left begins with the name there
next : (ns : List (List ℕ)) (place : ℕ) (n : List ℕ) → place < length ns → n ≡ get_or ns place n → drop place ns ≡ n ∷ drop (place + 1) ns
next ns place n within here = drop_more ns place n within ∙ ap (λ x. x ∷ drop (place + 1) ns) (sym here)

pub returns-then-is : goal.returns-then-is
returns-then-is c =
    let left = next c.args.names.now c.loop-place.place c.index-names-place.result c.loop-place-test.true c.index-names-place.is in
    let same = bytes_eq-symmetric c.args.name.now c.index-names-place.result in
    let so_far = rw left at c.loop-place.invariant in
    grind (arith, common_steps)

pub loop-place-preserved : goal.loop-place-preserved
loop-place-preserved c =
    let left = next c.args.names.now c.loop-place.place c.index-names-place.result c.loop-place-test.true c.index-names-place.is in
    let same = bytes_eq-symmetric c.args.name.now c.index-names-place.result in
    let so_far = rw left at c.loop-place.invariant in
    grind (arith, common_steps)
