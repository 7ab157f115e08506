use Rattle.std.proofs.Common.{◌≡◌, ◌+◌, ◌≤◌, length, map}
use Rattle.std.specs.String.{string_bytes}
use Rattle.dv_command.specs.Asked.{statement_limit}
use Rattle.dv_core.specs.Inner.WriteParts.{written_seen}
use Rattle.dv_core.specs.Writes.{statement_of}
use Rattle.dv_core.proofs.Statements.{Reached}
use Rattle.dv_core.proofs.writes.write_each.Given as goal

-- the entries so far were carried out, each a statement
abbrev pub invariant-entries : goal.invariant-entries
invariant-entries l =
    let w = l.fn.write in
    let old = l.fn.catalog in
    let so_far = written_seen l.written l.catalog.state.namespaces in
    record {
      reached : Reached (string_bytes w.namespace) w.ordered old.state.views (map (statement_of w.kind) w.entries) old.state.namespaces old.marks so_far l.catalog.marks (map (statement_of w.kind) l.entry-iterator);
      same : l.catalog.state.views ≡ old.state.views;
      room : l.written.statements + length l.entry-iterator ≤ statement_limit;
    }
