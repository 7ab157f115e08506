use Rattle.std.proofs.Common.{◌≡◌, ◌≤◌, ◌++◌, filter as kept, length, map}
use Rattle.dv_match.specs.Match.{matches}
use Rattle.dv_index.proofs.walk.scan.Given as goal

-- the documents found so far, and those that match among the others
abbrev pub invariant-documents : goal.invariant-documents
invariant-documents l = record {
  whole : map (λ d. d.now) l.found.items ++ kept (matches l.filter) l.document-iterator ≡ kept (matches l.filter) l.fn.documents;
  fewer : length l.found.items ≤ l.most;
}
