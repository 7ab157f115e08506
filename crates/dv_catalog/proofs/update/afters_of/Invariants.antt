use Rattle.std.proofs.Common.{◌≡◌, ◌++◌, drop, map}
use Rattle.dv_catalog.specs.Inner.EffectView.{after_of}
use Rattle.dv_catalog.proofs.update.afters_of.Given as goal

-- the documents so far, and those that are left
abbrev pub invariant-documents : goal.invariant-documents
invariant-documents l = l.afters.items ++ map (after_of l.fn.updates.name) (drop l.document-index l.fn.updates.each.items) ≡ map (after_of l.fn.updates.name) l.fn.updates.each.items
