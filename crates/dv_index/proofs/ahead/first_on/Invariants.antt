use Rattle.std.proofs.Common.{List, drop}
use Rattle.std.specs.List.{AllByRecursion}
use Rattle.dv_value.specs.Tree.{Field}
use Rattle.dv_index.specs.Inner.Search.{IsIndexOf}
use Rattle.dv_index.proofs.ahead.first_on.Given as goal

-- the indexes that are left have the documents' keys if all have
abbrev pub invariant-loop-index : goal.invariant-loop-index
invariant-loop-index l = (ds : List (List Field)) → AllByRecursion (λ x. IsIndexOf x ds) l.indexes → AllByRecursion (λ x. IsIndexOf x ds) (drop l.index-index l.indexes)
