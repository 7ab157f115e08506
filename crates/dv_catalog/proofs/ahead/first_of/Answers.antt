use Rattle.std.proofs.Common.{Bor, ◌≡◌, ◌≤◌, ◌+◌, ◌-◌, ◌∙◌, ◌∷◌, arith, ap, sym, length, List, Some, slice_get, take, true}
use Rattle.dv_value.specs.Tree.{Field}
use Rattle.dv_index.specs.Inner.Ahead.{is_ahead}
use Rattle.dv_path.specs.Parts.{part}
use Rattle.dv_path.specs.SortSpec.{Part}
use Rattle.dv_pipe.specs.Sources.{rows_referred}
use Rattle.dv_sort.specs.Sorting.{stable}
use Rattle.dv_coll.specs.Collection.{HasId}
use Rattle.dv_catalog.specs.Inner.ScanLaws.{all_stable, all_take}
use Rattle.dv_catalog.proofs.Foremost.{first_alike, holds-at}
use Rattle.dv_catalog.proofs.ahead.first_of.Goals as goal

pub returns-then-branch : goal.returns-then-branch
returns-then-branch c = λ rows ascending same.
    let most = c.args.most in
    let by = part c.args.by.now in
    let bar = c.args.ahead.now.bar in
    let some = rows_referred c.args.ahead.now.documents.items in
    let first = c.in_ok-first.first.items in
    let last = c.in-Some.last.now in
    let i = length first - 1 in
    let sorted-by = λ (sort : List Part) (some-rows : List (List Field)). take most (stable sort some-rows) in
    let is : first ≡ sorted-by (by ∷ c.requires.parts.0) some =
    c.in_ok-first.ensures ∙ ap (λ (documents : List (Bor (List Field))). sorted-by c.args.sort.now (rows_referred documents)) c.deref.ensures.value ∙ ap (λ sort. sorted-by sort some) c.requires.parts.1 in
    let there : slice_get first i ≡ Some last = sym (c.in-Some.ensures.value ∙ ap (λ (found : List (List Field)). slice_get found (length found - 1)) c.deref-2.ensures.value) in
    let enough : most ≤ i + 1 = omega (arith, c.len.ensures, c.if-len-most.true) in
    let ahead : is_ahead by bar last ≡ true = sym c.in_ok-is_ahead.ensures ∙ c.if-branch.true in
    is ∙ first_alike by c.requires.parts.0 bar c.requires.parts.2 some rows c.requires.ascending ascending most i last same (ap (λ found. slice_get found i) (sym is) ∙ there) enough ahead ∙ sym (ap (λ sort. sorted-by sort rows) c.requires.parts.1)

-- each row begins with an `_id`, and so does the last one
pub is_ahead-requires : goal.is_ahead-requires
is_ahead-requires c =
    let most = c.args.most in
    let sort = c.args.sort.now in
    let some = rows_referred c.args.ahead.now.documents.items in
    let first = c.in_ok-first.first.items in
    let last = c.in-Some.last.now in
    let i = length first - 1 in
    let is : first ≡ take most (stable sort some) = c.in_ok-first.ensures ∙ ap (λ (documents : List (Bor (List Field))). take most (stable sort (rows_referred documents))) c.deref.ensures.value in
    let there : slice_get first i ≡ Some last = sym (c.in-Some.ensures.value ∙ ap (λ (found : List (List Field)). slice_get found (length found - 1)) c.deref-2.ensures.value) in
    holds-at HasId (take most (stable sort some)) i last (all_take HasId most (stable sort some) (all_stable HasId sort some c.requires.identified)) (ap (λ found. slice_get found i) (sym is) ∙ there)
