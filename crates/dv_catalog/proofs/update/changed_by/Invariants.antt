use Rattle.std.proofs.Common.{◌≡◌, ◌++◌, drop, filter, map, Ok}
use Rattle.dv_value.specs.Results.{◌>>=◌}
use Rattle.dv_pipe.specs.Sources.{rows_referred}
use Rattle.dv_update.specs.Outcome.{sole_name}
use Rattle.dv_update.specs.UpdateView as seen
use Rattle.dv_catalog.specs.Effects as updates
use Rattle.dv_catalog.specs.Inner.EffectView.{after_of}
use Rattle.dv_catalog.proofs.update.changed_by.Given as goal

-- what was changed so far, and the results for the documents that are left
abbrev pub invariant-documents : goal.invariant-documents
invariant-documents l = record {
  afters : updates.changed_by (seen.update l.fn.update) (rows_referred l.fn.documents)
      ≡ (updates.changed_by (seen.update l.fn.update) (rows_referred (drop l.document-index l.documents)) >>= λ es. Ok (map (after_of (sole_name (seen.update l.fn.update))) l.changed.items ++ es));
  befores : filter (updates.changes (seen.update l.fn.update)) (rows_referred l.fn.documents)
      ≡ map (λ u. u.before) l.changed.items ++ filter (updates.changes (seen.update l.fn.update)) (rows_referred (drop l.document-index l.documents));
}
