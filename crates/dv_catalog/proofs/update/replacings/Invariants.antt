use Rattle.std.proofs.Common.{◌≡◌, ◌++◌, length, map}
use Rattle.dv_index.specs.Inner.View.{afters, befores}
use Rattle.dv_catalog.proofs.update.replacings.Given as goal

-- the pairs so far, and those that are left
abbrev pub invariant-documents : goal.invariant-documents
invariant-documents l =
    (goal.iterator-documents).can_next l.document-iterator × (goal.iterator-documents).is_finite l.document-iterator
    × (befores l.pairs.items ++ map (λ u. u.before) l.document-iterator.a.rest.now ≡ map (λ u. u.before) l.fn.each)
    × (afters l.pairs.items ++ l.document-iterator.b.rest.now ≡ l.fn.afters)
    × (length l.document-iterator.b.rest.now ≡ length l.document-iterator.a.rest.now)
