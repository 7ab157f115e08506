use Rattle.std.proofs.Common.{◌≡◌, ◌∙◌, ◌+◌, ◌++◌, List, Ok, ap, drop, filter, map}
use Rattle.dv_value.specs.Tree.{Field}
use Rattle.dv_refusal.specs.Refusals.{refused_by, update_refusal}
use Rattle.dv_value.specs.Results.{◌>>=◌}
use Rattle.dv_value.specs.Inner.ListLaws.{drop-read}
use Rattle.dv_pipe.specs.Sources.{rows_referred}
use Rattle.dv_update.specs.Outcome as outcomes
use Rattle.dv_update.specs.UpdateView as seen
use Rattle.dv_catalog.specs.Effects as updates
use Rattle.dv_catalog.specs.Inner.EffectView.{after_of}
use Rattle.dv_catalog.proofs.Updated.{afters_more, befores_more}
use Rattle.dv_catalog.proofs.update.changed_by.Goals as goal

pub documents-preserved : goal.documents-preserved
documents-preserved c =
    let update = seen.update c.args.update.now in
    let name = outcomes.sole_name update in
    let d : List Field = c.document-item.result.now in
    let e : List Field = outcomes.outcome_seen name d c.in_ok-outcome.outcome in
    let rest = rows_referred (drop (c.documents.document-index + 1) c.args.documents.now) in
    let afters = map (after_of name) c.documents.changed.items in
    let befores = map (λ u. u.before) c.documents.changed.items in
    let here = drop-read c.args.documents.now c.documents.document-index c.document-item.result c.documents-test.true c.document-item.is in
    let told : updates.after update d ≡ Ok e = ap (refused_by update_refusal) c.in_ok-outcome.ensures.applied in
    record {
      afters = c.documents.invariant.afters
          ∙ ap (λ ds. updates.changed_by update (rows_referred ds) >>= λ es. Ok (afters ++ es)) here
          ∙ afters_more update d e rest afters (map (after_of name) c.add_changed.new.changed.items) (outcomes.stays c.in_ok-outcome.outcome) told c.in_ok-outcome.ensures.same (c.in_ok-add_changed.ensures.afters name);
      befores = c.documents.invariant.befores
          ∙ ap (λ ds. befores ++ filter (updates.changes update) (rows_referred ds)) here
          ∙ befores_more update d e rest befores (map (λ u. u.before) c.add_changed.new.changed.items) (outcomes.stays c.in_ok-outcome.outcome) told c.in_ok-outcome.ensures.same c.in_ok-add_changed.ensures.befores;
    }
