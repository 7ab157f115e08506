use Rattle.std.proofs.Common.{arith}
use Rattle.dv_sort.proofs.Bars.{cut-bar, length-sorted}
use Rattle.dv_sort.proofs.Kept.{cut-kept}
use Rattle.dv_sort.proofs.sorter.keep_front.Goals as goal

pub returns-clause-same : goal.returns-clause-same
returns-clause-same c = cut-kept c.args.spec.now c.args.most c.in-Some.most c.args.rows.now.items c.sort_rows.new.rows.items c.cut.new.rows.items c.in-Some.is c.in_ok-sort_rows.ensures.ok c.cut.ensures.rows

pub returns-clause-bar : goal.returns-clause-bar
returns-clause-bar c = cut-bar (λ v. v.items) c.args.spec.now c.args.most c.in-Some.most c.args.rows.now.items c.sort_rows.new.rows.items c.cut.new.rows.items c.cut.result c.in-Some.is c.in_ok-sort_rows.ensures.ok c.cut.ensures.rows c.in_ok-sort_rows.ensures.keyed c.cut.ensures.keys

pub cut-requires : goal.cut-requires
cut-requires c = omega (arith, length-sorted c.args.spec.now c.args.rows.now.items c.sort_rows.new.rows.items c.in_ok-sort_rows.ensures.ok, c.if-len-most.false, c.len.ensures)
