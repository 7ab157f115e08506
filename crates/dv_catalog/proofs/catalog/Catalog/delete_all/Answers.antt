use Rattle.std.proofs.Common.{◌≡◌, [], None, ap, sym}
use Rattle.std.proofs.lemmas.Result.{err_from_is_err_and}
use Rattle.dv_command.specs.Inner.View.{deletion_seen}
use Rattle.dv_catalog.specs.Inner.CatalogParts.{marked_of}
use Rattle.dv_catalog.specs.Changes.{changes_of, done_to}
use Rattle.dv_catalog.specs.Effects.{delete_chosen}
use Rattle.dv_catalog.specs.State.{collection_of, documents_of}
use Rattle.dv_catalog.specs.Inner.StateLaws.{documents_there}
use Rattle.dv_catalog.specs.declared.counts.Counted.{Counted}
use Rattle.dv_catalog.specs.declared.failure.Stopped.{Stopped}
use Rattle.dv_catalog.proofs.Marking.{nothing_deleted, stands_before, stands_idle}
use Rattle.dv_catalog.proofs.catalog.Catalog.delete_all.Goals as goal

pub returns-in_err-effect-in-Some-clause-marks : goal.returns-in_err-effect-in-Some-clause-marks
returns-in_err-effect-in-Some-clause-marks c =
    let p = err_from_is_err_and c.from_residual.result c.from_residual.ensures.1 in
    stands_before c.args.namespace.now (done_to (collection_of c.args.namespace.now c.args.self.now.state.namespaces) (delete_chosen (deletion_seen c.args.deletion.now))) c.args.self.now c.from_residual.result p.0 p.1 (ap (λ (s : Stopped). s.done) p.2)

pub returns-in-None-clause-marks : goal.returns-in-None-clause-marks
returns-in-None-clause-marks c =
    let name = c.args.namespace.now in
    let old = c.self.inside.collections in
    let asked = deletion_seen c.args.deletion.now in
    let none : documents_of name old ≡ [] = documents_there old name None (sym c.in-None.ensures) in
    rw (← c.self.view_is)
    (stands_idle {B = Counted} name (done_to (collection_of name old) (delete_chosen asked)) (marked_of old c.self.inside.views) (record { matched = 0; changed = 0 }) (ap changes_of (nothing_deleted asked (collection_of name old) none)))
