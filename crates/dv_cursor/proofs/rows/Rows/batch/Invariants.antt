use Rattle.std.proofs.Common.{◌≡◌, ◌+◌, ◌++◌, min}
use Rattle.dv_cursor.specs.Batch.{batch, batch_limit, total_size}
use Rattle.dv_cursor.proofs.Batches.{filled}
use Rattle.dv_cursor.proofs.rows.Rows.batch.Given as goal

-- what is taken, filled with the rows that are left, is the batch
abbrev pub invariant-rows : goal.invariant-rows
invariant-rows l = record {
  filled : filled l.count l.taken.items (l.row-iterator.head.now ++ l.row-iterator.wrapped.now) ≡ batch l.count l.self;
  counted : l.bytes ≡ min (total_size l.taken.items) (batch_limit + 1);
}
