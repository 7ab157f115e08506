use Rattle.std.proofs.Common.{◌∙◌, ◌++◌, ◌∷◌, ◌≤◌, [], length, map, ap, sym, append-nil}
use Rattle.std.proofs.lemmas.List.{length-map, map-append}
use Rattle.dv_value.specs.View.{tree}
use Rattle.dv_value.specs.Inner.ListLaws.{slice_get_seen}
use Rattle.dv_candidates.specs.Candidates.{picked, candidate_found}
use Rattle.dv_candidates.specs.View.{seen}
use Rattle.dv_candidates.proofs.Asked.{none-past}
use Rattle.dv_candidates.proofs.listed.pick.Goals as goal

pub returns-in_default-get : goal.returns-in_default-get
returns-in_default-get c =
    let past : length c.args.list.now ≤ c.in-Some.index = rw (← c.as_slice.ensures, length-map) c.in_default-get.ensures.lookup.3 in
    sym (append-nil (map seen c.args.next.now.items)) ∙ ap (λ l. map seen c.args.next.now.items ++ l) (sym (ap (λ o. picked o c.args.list.now) (sym c.in-Some.ensures) ∙ ap candidate_found (none-past c.args.list.now c.in-Some.index past)))

pub returns : goal.returns
returns c =
    let lookup = c.in-Some-get.ensures.lookup in
    let there = slice_get_seen tree c.as_slice.result.now c.args.list.now c.in-Some.index c.in-Some-get.element.now c.as_slice.ensures lookup.3.0 lookup.1 in
    ap (map seen) c.in_ok-push.ensures.items ∙ map-append seen c.args.next.now.items (_ ∷ []) ∙ ap (λ l. map seen c.args.next.now.items ++ l) (sym (ap (λ o. picked o c.args.list.now) (sym c.in-Some.ensures) ∙ ap candidate_found there))
