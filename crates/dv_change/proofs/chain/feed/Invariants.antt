-- What the operator has taken in, with the changes that are left, is what it takes in by all of them.
use Rattle.std.proofs.Common.{◌≡◌, ◌≤◌, ◌++◌}
use Rattle.std.specs.Vec.Iter.{into_iter_items}
use Rattle.dv_change.specs.Inner.Beginning.{BeginsWith}
use Rattle.dv_change.specs.Changes.{with_changes}
use Rattle.dv_change.specs.Inner.Linked.{changes_of_one, work_of_one}
use Rattle.dv_change.specs.Inner.Work.{stage_work}
use Rattle.dv_change.specs.Raised.{raised}
use Rattle.dv_change.specs.Work.{handed, stage_rows}
use Rattle.dv_change.proofs.chain.feed.Given as goal

abbrev pub invariant-changes : goal.invariant-changes
invariant-changes g l =
    let turning = g.T.Turn.turning in
    let f = stage_rows (turning.form l.fn.turn) in
    let rest = into_iter_items l.change-iterator in
    let all = l.fn.changes.items in
    let now = turning.left l.turn in
    record {
      sound : turning.sound l.turn;
      makes : (turning.form l.turn).makes ≡ (turning.form l.fn.turn).makes;
      others : (turning.form l.turn).named ≡ (turning.form l.fn.turn).named;
      left : with_changes now rest ≡ with_changes (turning.left l.fn.turn) all;
      out : l.out.items ++ handed f now rest ≡ l.fn.out.items ++ changes_of_one turning all l.fn.turn;
      ticks : raised l.ticks (stage_work f now rest) ≡ raised l.fn.ticks (work_of_one turning all l.fn.turn);
      begins : BeginsWith l.out.items l.fn.out.items;
      no_fewer : l.fn.ticks ≤ l.ticks;
    }
