use Rattle.std.proofs.Common.{◌≡◌, length, Some, sym, ap, ◌∙◌, arith}
use Rattle.std.proofs.Math.Seq.{take-append_seam}
use Rattle.std.proofs.lemmas.List.{length-map}
use Rattle.dv_pipe.specs.Sources.{rows_referred}
use Rattle.dv_catalog.specs.Scan.{matching}
use Rattle.dv_sort.specs.Sorting.{front}
use Rattle.dv_catalog.proofs.standing.first_matching.Goals as goal

pub returns-then-eq : goal.returns-then-eq
returns-then-eq c =
    let found = rows_referred c.rows.found.items in
    let all = matching c.args.filter.now c.args.rows in
    let many : c.args.most ≡ Some (length c.rows.found.items) = grind (arith, c.eq.ensures, c.len.ensures, c.if-eq.true) in
    let count : c.args.most ≡ Some (length found) = many ∙ ap Some (sym (length-map c.rows.found.items _)) in
    sym (take-append_seam found (matching c.args.filter.now c.rows.row-iterator)) ∙ rw count (ap (front (Some (length found))) c.rows.invariant.whole)
