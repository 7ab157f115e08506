use Rattle.std.proofs.Common.{◌≡◌, ℕ, List, ◌++◌, drop}
use Rattle.dv_message.specs.Inner.Batches.{rows_spelling}
use Rattle.dv_message.proofs.batch.append_rows.Given as goal

-- the bytes so far, with the remaining rows appended, are the old bytes with all rows appended
abbrev pub invariant-rows : goal.invariant-rows
invariant-rows l = record {
  left : l.out.items ++ rows_spelling l.place (drop l.place l.rows) ≡ l.fn.out.items ++ rows_spelling 0 l.rows;
  grew : (part : List ℕ) × (l.out.items ≡ l.fn.out.items ++ part);
}
