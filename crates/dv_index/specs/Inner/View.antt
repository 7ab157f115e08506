-- What documents there are before and after some are replaced.
use Rattle.std.specs.Prelude.{List, map}
use Rattle.dv_value.specs.Tree.{Field}
use Rattle.dv_index.specs.declared.unique.Replacing.{Replacing}

-- the documents that are replaced
abbrev pub befores : List Replacing → List (List Field)
befores each = map (λ r. r.before.now) each

-- and those that replace them
abbrev pub afters : List Replacing → List (List Field)
afters each = map (λ r. r.after.now) each
