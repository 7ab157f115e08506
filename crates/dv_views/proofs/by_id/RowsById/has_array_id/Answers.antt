use Rattle.std.proofs.Common.{◌≡◌, ◌∙◌, [], List, ap, filter, subst, sym}
use Rattle.std.specs.List.{AllByRecursion}
use Rattle.std.specs.BTreeMap.Range.{range_contains}
use Rattle.std.specs.declared.ops.Bound.TheVariants.{Included, Excluded}
use Rattle.dv_change.specs.Changes.{forget}
use Rattle.dv_coll.specs.Collection.{HasId, id_key}
use Rattle.dv_order.specs.Key.{key_order}
use Rattle.dv_pipe.specs.Sources.{Row}
use Rattle.dv_views.proofs.Ranges.{no_arrays, none_left}
use Rattle.dv_views.proofs.by_id.RowsById.has_array_id.Goals as goal

pub returns : goal.returns
returns c = λ none.
    let rows = c.self.inside.live.now.rows.entries in
    let left = none_left c.next.result c.in_ok-arrays.arrays c.next.new.self (sym c.is_some.ensures ∙ none) c.next.ensures.steps in
    let within : filter (λ d. range_contains key_order (Included c.in_ok-first.first) (Excluded c.in_ok-behind.behind) (id_key d)) (forget rows) ≡ [] =
    ap (filter (λ d. range_contains key_order (Included c.in_ok-first.first) (Excluded c.in_ok-behind.behind) (id_key d))) c.self.view_is ∙ sym c.in_ok-arrays.ensures ∙ left in
    let arrays = (λ i. filter (λ d. range_contains key_order (Included (sym c.in_ok-first.ensures i)) (Excluded (sym c.in_ok-behind.ensures i)) (id_key d)) (forget rows)) ∙ within in
    subst (λ (ds : List Row). AllByRecursion HasId ds) c.self.view_is (no_arrays rows c.self.invariant.ids arrays)
