use Rattle.std.proofs.Common.{ap}
use Rattle.std.proofs.lemmas.Result.{err_from_is_err_and}
use Rattle.dv_catalog.specs.Changes.{done_to}
use Rattle.dv_catalog.specs.State.{collection_of}
use Rattle.dv_catalog.specs.declared.failure.Stopped.{Stopped}
use Rattle.dv_core.specs.Writes.{statement_of}
use Rattle.dv_core.proofs.Marking.{unmade_stands}
use Rattle.dv_core.proofs.writes.write_once.Goals as goal

pub returns-in_err-storable-in-Insert-clause-marks : goal.returns-in_err-storable-in-Insert-clause-marks
returns-in_err-storable-in-Insert-clause-marks c =
    let p = err_from_is_err_and c.from_residual.result c.from_residual.ensures.1 in
    let old = c.args.catalog.now in
    let does = done_to (collection_of c.args.namespace.now old.state.namespaces) (statement_of c.args.kind c.args.entry.now) in
    unmade_stands c.args.namespace.now does old c.from_residual.result p.0 p.1 (ap (λ (s : Stopped). s.done) p.2)

pub returns-in_err-updating_of-in-Update-clause-marks : goal.returns-in_err-updating_of-in-Update-clause-marks
returns-in_err-updating_of-in-Update-clause-marks c =
    let p = err_from_is_err_and c.from_residual-in_err-updating_of-in-Update.result c.from_residual-in_err-updating_of-in-Update.ensures.1 in
    let old = c.args.catalog.now in
    let does = done_to (collection_of c.args.namespace.now old.state.namespaces) (statement_of c.args.kind c.args.entry.now) in
    unmade_stands c.args.namespace.now does old c.from_residual-in_err-updating_of-in-Update.result p.0 p.1 (ap (λ (s : Stopped). s.done) p.2)

pub returns-in_err-deletion-in-Delete-clause-marks : goal.returns-in_err-deletion-in-Delete-clause-marks
returns-in_err-deletion-in-Delete-clause-marks c =
    let p = err_from_is_err_and c.from_residual-in_err-deletion-in-Delete.result c.from_residual-in_err-deletion-in-Delete.ensures.1 in
    let old = c.args.catalog.now in
    let does = done_to (collection_of c.args.namespace.now old.state.namespaces) (statement_of c.args.kind c.args.entry.now) in
    unmade_stands c.args.namespace.now does old c.from_residual-in_err-deletion-in-Delete.result p.0 p.1 (ap (λ (s : Stopped). s.done) p.2)
