-- The first one is put first.
use Rattle.std.proofs.Common.{rules, ◌≡◌, ap, drop, slice_get, sym, List, None, Some}
use Rattle.dv_value.specs.Tree.{Field}
use Rattle.dv_change.specs.Inner.Ordered.{put}
use Rattle.dv_change.specs.Positions.{PosTree}
use Rattle.dv_join.specs.Inner.Listed as listed
use Rattle.dv_join.proofs.Rows.{begun, none-of}
use Rattle.dv_join.proofs.joining.with_all.Goals as goal

pub returns-in_default : goal.returns-in_default
returns-in_default c =
    let none : slice_get c.args.others.now 0 ≡ None = search rules in
    ap (listed.with_each_row c.args.rows) (sym (none-of c.args.others.now none))

pub others-init : goal.others-init
others-init c =
    let row : PosTree × List Field = (c.in-Some.pos.now, c.in-Some.row.now) in
    let first : slice_get c.args.others.now 0 ≡ Some row = search rules in
    let rest : c.into_iter-pos-iterator.result ≡ drop 1 c.args.others.now = search rules in
    let all : c.in_ok-all.all ≡ put row.0 row.1 c.args.rows = search rules in
    begun c.args.rows c.args.others.now c.into_iter-pos-iterator.result c.in_ok-all.all row first rest all
