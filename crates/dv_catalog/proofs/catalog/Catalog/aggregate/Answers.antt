use Rattle.std.proofs.Common.{ℕ, List, ap, refl, ◌∙◌}
use Rattle.std.proofs.lemmas.Result.{IfOk-weaker}
use Rattle.std.specs.String.{string_bytes}
use Rattle.dv_pipe.specs.Stages.{Lists, evaluated}
use Rattle.dv_views.specs.Forms.{names_read}
use Rattle.dv_catalog.specs.Inner.CatalogParts.{AreLive, marked_of, rows_kept, state_of}
use Rattle.dv_catalog.specs.Marks.{Marked}
use Rattle.dv_catalog.specs.State.{rows_of}
use Rattle.dv_catalog.proofs.Refreshed.{kept_alike, reads_on}
use Rattle.dv_catalog.proofs.Sourced.{evaluated_alike}
use Rattle.dv_catalog.proofs.catalog.Catalog.aggregate.Goals as goal

pub returns-clause-marks : goal.returns-clause-marks
returns-clause-marks c =
    let collections = c.self.inside.collections in
    let names = names_read c.args.aggregate.now.pipeline (string_bytes c.args.aggregate.now.namespace) in
    rw (← c.self.view_is)
    (reads_on names (marked_of collections c.self.inside.views) (marked_of collections c.refresh_read.new.registry) (tt {0}) (rw c.deref.ensures at c.in_ok-refresh_read.ensures.marks) c.rows_of_stages.result)

pub returns-clause-rows : goal.returns-clause-rows
returns-clause-rows c =
    let source = string_bytes c.args.aggregate.now.namespace in
    let stages = c.args.aggregate.now.pipeline in
    let collections = c.self.inside.collections in
    let after = c.refresh_read.new.registry in
    let kept : Lists = λ name. rows_kept name collections after in
    let state = state_of collections c.self.inside.views in
    let names : List (List ℕ) = names_read stages source in
    let right = c.refresh_read.ensures.right c.self.invariant.right in
    let same = ap (λ (m : Marked). m.state) c.in_ok-refresh_read.ensures.marks in
    let live : AreLive names after = rw c.deref.ensures at c.in_ok-refresh_read.ensures.live in
    let alike = kept_alike names kept collections after state (λ name. c.law_shown.ensures.kept collections name right) same live (λ name among. refl) in
    let given = ap (λ ss. evaluated ss c.deref-2.result.now kept) c.stages.ensures ∙ ap (λ (name : List ℕ). evaluated stages name kept) c.deref-2.ensures ∙ evaluated_alike c.what_is_not_read_does_not_matter.ensures stages source kept (λ name. rows_of name state) alike in
    rw (← c.self.view_is) (IfOk-weaker c.rows_of_stages.result _ _ (λ rows is. is ∙ given) c.rows_of_stages.ensures)
