use Rattle.std.proofs.Common.{ap, arith, List, map, length, ◌∙◌, refl}
use Rattle.dv_value.specs.Tree.{Field}
use Rattle.std.proofs.lemmas.Result.{err_from_is_err_and}
use Rattle.std.specs.String.{string_bytes}
use Rattle.dv_core.specs.Statements.{Written}
use Rattle.dv_command.specs.Inner.View.{write_seen}
use Rattle.dv_core.specs.Inner.WriteParts.{written_seen}
use Rattle.dv_core.specs.Writes.{statement_of, write_by}
use Rattle.dv_core.proofs.Statements.{WholeOf, starts, at_end, due_behind, ends, cut_here, counts, done_replied, done_untold, cut_replied, cut_untold}
use Rattle.dv_core.proofs.writes.write_each.Goals as goal
use Rattle.dv_core.proofs.writes.write_each.Goals.{in-None, in-Some+in_ok-write_next+in-Ended}

pub entries-init : goal.entries-init
entries-init c =
    let old = c.args.catalog.now in
    let nothing = c.new-written.ensures old.state.namespaces in
    let all = c.into_iter-entry-iterator.ensures.into_iter_gives in
    let w = c.args.write in
    record {
      reached = rw (nothing, all) (starts (string_bytes w.namespace) w.ordered old.state.views (map (statement_of w.kind) w.entries) old.state.namespaces old.marks);
      same = refl;
      room = rw all (omega (arith, c.args.write.few, ap (λ (w : Written). w.statements) nothing));
    }

pub entries-preserved : goal.entries-preserved
entries-preserved c =
    let here = rw c.in-Some.ensures.steps at c.entries.invariant.reached in
    let next = rw (c.in-Due.is, c.deref.ensures, c.entries.invariant.same) at c.in_ok-write_next.ensures.step in
    let counted = counts _ _ _ _ _ _ _ _ _ _ here _ _ next in
    let room = ap (λ (es : List (List Field)). length es) c.in-Some.ensures.steps in
    record {
      reached = due_behind _ _ _ _ _ _ _ _ _ _ here _ _ next;
      same = c.in_ok-write_next.ensures.views ∙ c.entries.invariant.same;
      room = omega (arith, counted, room, c.entries.invariant.room);
    }

pub returns-in_err-write_next-clause-writes : goal.returns-in_err-write_next-clause-writes
returns-in_err-write_next-clause-writes c =
    let p = err_from_is_err_and c.from_residual.result c.from_residual.ensures.1 in
    let here = rw c.in-Some.ensures.steps at c.entries.invariant.reached in
    let cuts = rw (c.deref.ensures, c.entries.invariant.same) at c.in_err-write_next.ensures.step in
    rw p.1 (cut_untold (write_by (write_seen c.args.write)) c.args.catalog.now c.write_next.new.catalog cuts.0 (cut_here _ _ _ _ _ _ _ _ _ _ here cuts.0 _ cuts.1) cuts.2)

pub returns-in_err-reply-in-Cut-clause-writes : goal.returns-in_err-reply-in-Cut-clause-writes
returns-in_err-reply-in-Cut-clause-writes c =
    let p = err_from_is_err_and c.from_residual-in_err-reply-in-Cut.result c.from_residual-in_err-reply-in-Cut.ensures.1 in
    let here = rw c.in-Some.ensures.steps at c.entries.invariant.reached in
    let cuts = rw (c.in-Cut.is, c.deref.ensures, c.entries.invariant.same) at c.in_ok-write_next.ensures.step in
    let left = written_seen c.write_next.new.written c.write_next.new.catalog.state.namespaces in
    rw p.1 (cut_untold (write_by (write_seen c.args.write)) c.args.catalog.now c.write_next.new.catalog left (cut_here _ _ _ _ _ _ _ _ _ _ here _ _ cuts) refl)

pub returns-in-Cut-clause-writes : goal.returns-in-Cut-clause-writes
returns-in-Cut-clause-writes c =
    let here = rw c.in-Some.ensures.steps at c.entries.invariant.reached in
    let cuts = rw (c.in-Cut.is, c.deref.ensures, c.entries.invariant.same) at c.in_ok-write_next.ensures.step in
    let left = written_seen c.write_next.new.written c.write_next.new.catalog.state.namespaces in
    cut_replied (write_by (write_seen c.args.write)) c.args.catalog.now c.write_next.new.catalog left _ (cut_here _ _ _ _ _ _ _ _ _ _ here _ _ cuts) refl c.in_ok-reply-in-Cut.ensures

pub returns-in_err-reply-clause-writes : goal.returns-in_err-reply-clause-writes
returns-in_err-reply-clause-writes c =
    let p = err_from_is_err_and c.from_residual-in_err-reply.result c.from_residual-in_err-reply.ensures.1 in
    let write = write_by (write_seen c.args.write) in
    let left = written_seen c.match-next.written c.match-next.catalog.state.namespaces in
    let all : WholeOf write c.args.catalog.now c.match-next.catalog left =
    elim c.match-next.branch [
      | in-None w ↦
          let here = rw w.in-None.ensures.steps.0 at c.entries.invariant.reached in
          rw (w.written-is, w.catalog-is) (at_end _ _ _ _ _ _ _ _ here)
      | in-Some+in_ok-write_next+in-Ended w ↦
          let here = rw w.in-Some.ensures.steps at c.entries.invariant.reached in
          let next = rw (w.in-Ended.is, w.deref.ensures, c.entries.invariant.same) at w.in_ok-write_next.ensures.step in
          rw (w.written-is, w.catalog-is) (ends _ _ _ _ _ _ _ _ _ _ here _ _ next)
    ] in
    rw p.1 (done_untold write c.args.catalog.now c.match-next.catalog left all refl)

pub returns-clause-writes : goal.returns-clause-writes
returns-clause-writes c =
    let write = write_by (write_seen c.args.write) in
    let left = written_seen c.match-next.written c.match-next.catalog.state.namespaces in
    let all : WholeOf write c.args.catalog.now c.match-next.catalog left =
    elim c.match-next.branch [
      | in-None w ↦
          let here = rw w.in-None.ensures.steps.0 at c.entries.invariant.reached in
          rw (w.written-is, w.catalog-is) (at_end _ _ _ _ _ _ _ _ here)
      | in-Some+in_ok-write_next+in-Ended w ↦
          let here = rw w.in-Some.ensures.steps at c.entries.invariant.reached in
          let next = rw (w.in-Ended.is, w.deref.ensures, c.entries.invariant.same) at w.in_ok-write_next.ensures.step in
          rw (w.written-is, w.catalog-is) (ends _ _ _ _ _ _ _ _ _ _ here _ _ next)
    ] in
    done_replied write c.args.catalog.now c.match-next.catalog left _ all refl c.in_ok-reply.ensures
