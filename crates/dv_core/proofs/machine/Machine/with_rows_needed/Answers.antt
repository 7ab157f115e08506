use Rattle.std.proofs.Common.{◌≡◌, false, arith}
use Rattle.std.specs.String.{string_bytes}
use Rattle.dv_catalog.specs.State.{documents_of, is_view, lists_of}
use Rattle.dv_command.specs.Inner.View.{find_seen}
use Rattle.dv_core.proofs.Single.{narrowed}
use Rattle.dv_core.proofs.machine.Machine.with_rows_needed.Goals as goal

pub returns-then-not-is_view-clause-reply : goal.returns-then-not-is_view-clause-reply
returns-then-not-is_view-clause-reply c session cursors =
    let state = c.args.self.now.catalog in
    let name = string_bytes c.args.find.namespace in
    let no_view : is_view name state.views ≡ false = grind (arith, c.is_view.ensures, c.if-not-is_view.true, c.deref.ensures) in
    narrowed session (find_seen c.args.find) state cursors (documents_of name state.namespaces) (c.what_is_shown_is_right.ensures.none name (lists_of state.namespaces) state.views no_view) (c.requires name)
    c.if-find.true c.rows_needed.result c.rows_needed.ensures
