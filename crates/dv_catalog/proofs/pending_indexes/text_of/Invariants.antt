use Rattle.std.proofs.Common.{◌≡◌, ◌++◌, drop}
use Rattle.std.specs.String.{string_bytes}
use Rattle.dv_catalog.specs.Inner.ComingParts.{joined}
use Rattle.dv_catalog.proofs.pending_indexes.text_of.Given as goal

-- the text so far, and that of what is left, are the whole
abbrev pub invariant-components : goal.invariant-components
invariant-components l = string_bytes l.text ++ joined (drop l.component-index l.component-items) ≡ joined l.fn.path
