use Rattle.std.proofs.lemmas.List.{nil_from_length}
use Rattle.std.proofs.Common.{◌≡◌, ◌++◌, ◌∷◌, [], true, false, refl, sym, ◌∙◌, arith}
use Rattle.dv_cursor.specs.Batch.{can_hold}
use Rattle.dv_cursor.proofs.Batches.{batch-filled, holds-is, filled-more, filled-no_more, total_size-append}
use Rattle.dv_cursor.proofs.rows.Rows.batch.Goals as goal
use Rattle.dv_cursor.proofs.rows.Rows.batch.Goals.{in-None, in-Some+then-not-is_taken}

pub rows-init : goal.rows-init
rows-init c = record {
  filled = rw (c.in_ok-taken.ensures.items, c.into_iter-row-iterator.ensures.into_iter_gives, c.iter-row-items.ensures.rest, ← c.self.view_is) (sym (batch-filled c.args.count _));
  counted = rw c.in_ok-taken.ensures.items refl;
}

pub rows-preserved : goal.rows-preserved
rows-preserved c =
    let row = c.in-Some.row.now in
    let test = holds-is c.args.count c.len-in-rows.result c.rows.bytes c.bytes_with-more.result c.rows.taken.items row (c.len-in-rows.ensures ∙ c.rows.taken.ok.0) c.rows.invariant.counted c.bytes_with-more.ensures in
    let taken : can_hold c.args.count (c.rows.taken.items ++ row ∷ []) ≡ true = cc in
    let pushed = c.in_ok-push.ensures.items in
    record {
      filled = rw (pushed, c.in_ok-try_clone.ensures) (filled-more c.args.count c.rows.taken.items row (c.next.new.self.head.now ++ c.next.new.self.wrapped.now) taken ∙ (rw c.in-Some.ensures.steps at c.rows.invariant.filled));
      counted = rw (pushed, c.in_ok-try_clone.ensures, total_size-append) (omega arith);
    }

pub returns : goal.returns
returns c =
    elim c.match-next.branch [
      | in-None w ↦ rw (nil_from_length _ w.in-None.ensures.steps.0) at c.rows.invariant.filled
      | in-Some+then-not-is_taken w ↦
          let row = w.in-Some.row.now in
          let test = holds-is c.args.count w.len-in-rows.result c.rows.bytes w.bytes_with-more.result c.rows.taken.items row (w.len-in-rows.ensures ∙ c.rows.taken.ok.0) c.rows.invariant.counted w.bytes_with-more.ensures in
          let none : can_hold c.args.count (c.rows.taken.items ++ row ∷ []) ≡ false = cc in
          filled-no_more _ _ _ _ none ∙ (rw w.in-Some.ensures.steps at c.rows.invariant.filled)
    ]
