use Rattle.std.proofs.Common.{◌≡◌, map}
use Rattle.dv_value.specs.View.{tree}
use Rattle.dv_command.specs.Replies.{document_of}
use Rattle.dv_core.proofs.find.values_of.Given as goal

-- the values so far, and the documents that became them
abbrev pub invariant-documents : goal.invariant-documents
invariant-documents l = map tree l.values.items ≡ map document_of l.yielded
