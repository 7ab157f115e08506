use Rattle.std.proofs.Common.{◌∙◌, ◌++◌, ◌∷◌, [], ap, sym, map, append-nil, List, ℕ}
use Rattle.std.proofs.lemmas.List.{map-append}
use Rattle.dv_value.specs.Tree.{Field}
use Rattle.dv_value.specs.View.{tree}
use Rattle.dv_gather.specs.Joining.{as_value}
use Rattle.dv_gather.specs.View.{referred}
use Rattle.dv_gather.specs.Inner.Places.{items_at}
use Rattle.dv_gather.proofs.Placed.{items-next, items-skipped, items-chosen}
use Rattle.dv_gather.proofs.joining.documents_at.Goals as goal

pub places-preserved-in_ok-push : goal.places-preserved-in_ok-push
places-preserved-in_ok-push c =
    let ds = c.args.documents.now in
    let old = c.places.list.items in
    let d = c.in-Some-get.document.now in
    let found = c.in-Some-get.ensures.lookup in
    items-next ds c.in-Some.place.now c.next.new.self (map tree old) d _ found.3.0 found.1
    (ap (map tree) c.in_ok-push.ensures.items ∙ map-append tree old _ ∙ ap (λ (w : List Field). map tree old ++ as_value w ∷ []) c.in_ok-try_clone.ensures)
    ∙ ap (λ l. map tree old ++ map as_value (items_at l (referred ds))) (sym c.in-Some.ensures.steps) ∙ c.places.invariant

pub places-preserved : goal.places-preserved
places-preserved c =
    let ds = c.args.documents.now in
    let old = map tree c.places.list.items in
    items-skipped ds c.in-Some.place.now c.next.new.self old c.in_default.ensures.lookup.3
    ∙ ap (λ l. old ++ map as_value (items_at l (referred ds))) (sym c.in-Some.ensures.steps) ∙ c.places.invariant

pub returns : goal.returns
returns c =
    let ds = referred c.args.documents.now in
    let vs = map tree c.places.list.items in
    c.of.ensures ∙ sym (append-nil vs) ∙ sym (ap (λ (l : List ℕ). vs ++ map as_value (items_at l ds)) c.in-None.ensures.steps.0) ∙ c.places.invariant
    ∙ ap (map as_value) (items-chosen ds c.args.places.now.keys c.iter-place-items.ensures.ordered)
