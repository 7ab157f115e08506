-- The row at the place is put before those that are placed, unless it is marked.
use Rattle.std.proofs.Common.{◌≡◌, ◌<◌, ◌∙◌, ◌+◌, ◌-◌, ◌∷◌, [], ◌++◌, ap, sym, arith, rules, drop, length}
use Rattle.dv_change.specs.declared.position.Part.TheVariants.{At}
use Rattle.dv_change.specs.Changes.{in_row_order}
use Rattle.dv_change.specs.Inner.Ordered.{put}
use Rattle.dv_flow.specs.Inner.Unwinding.{rows_unmarked}
use Rattle.dv_flow.proofs.Apart.{unmarked-here, unmarked-past}
use Rattle.dv_flow.proofs.unwind.place_rows.Goals as goal

pub rows-preserved-then-is_marked : goal.rows-preserved-then-is_marked
rows-preserved-then-is_marked c =
    let rows = c.args.rows.now in
    let marked = c.args.marked.now in
    let pos = c.args.pos.now in
    let place = c.rows.place - 1 in
    let next : c.rows.place ≡ place + 1 = omega (arith, c.rows-test.true) in
    let within : place < length rows = omega (arith, c.rows-test.true, c.rows.auto.place, c.len-place.ensures) in
    c.rows.invariant
    ∙ ap (λ n. in_row_order (rows_unmarked marked n pos (drop n rows))) next
    ∙ ap in_row_order (sym (unmarked-past marked pos rows place within (sym c.is_marked.ensures ∙ c.if-is_marked.true)))

pub rows-preserved : goal.rows-preserved
rows-preserved c =
    let rows = c.args.rows.now in
    let marked = c.args.marked.now in
    let pos = c.args.pos.now in
    let place = c.rows.place - 1 in
    let row = c.in_ok-row.field-0 in
    let next : c.rows.place ≡ place + 1 = omega (arith, c.rows-test.true) in
    let within : place < length rows = omega (arith, c.rows-test.true, c.rows.auto.place, c.len-place.ensures) in
    let placed : c.in_ok-placed.placed ≡ put (pos ++ At place ∷ []) row c.rows.placed = search rules in
    placed
    ∙ ap (put (pos ++ At place ∷ []) row) (c.rows.invariant ∙ ap (λ n. in_row_order (rows_unmarked marked n pos (drop n rows))) next)
    ∙ sym (unmarked-here marked pos rows place row within c.in_ok-row.ensures (sym c.is_marked.ensures ∙ c.if-is_marked.false))
