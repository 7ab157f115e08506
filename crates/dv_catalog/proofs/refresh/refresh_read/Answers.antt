use Rattle.std.proofs.Common.{sym, ◌∙◌}
use Rattle.dv_views.specs.Forms.{names_read}
use Rattle.dv_catalog.proofs.Refreshed.{none_stale, read_none_stale, reads_nothing}
use Rattle.dv_catalog.proofs.refresh.refresh_read.Goals as goal

pub returns-then-not-has_stale-clause-live : goal.returns-then-not-has_stale-clause-live
returns-then-not-has_stale-clause-live c = none_stale (names_read c.args.pipeline.now c.args.source.now) c.args.registry.now (sym c.has_stale.ensures ∙ c.if-not-has_stale.true)

pub returns-then-not-has_stale-clause-marks : goal.returns-then-not-has_stale-clause-marks
returns-then-not-has_stale-clause-marks c = read_none_stale (names_read c.args.pipeline.now c.args.source.now) c.args.collections.now c.args.registry.now (sym c.has_stale.ensures ∙ c.if-not-has_stale.true)

pub returns-in_err-names-clause-marks : goal.returns-in_err-names-clause-marks
returns-in_err-names-clause-marks c = reads_nothing (names_read c.args.pipeline.now c.args.source.now) c.args.collections.now c.args.registry.now c.from_residual.result c.from_residual.ensures.0
