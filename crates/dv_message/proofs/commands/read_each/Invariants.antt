use Rattle.std.proofs.Common.{length}
use Rattle.dv_message.specs.Inner.SectionsView.{framed_seen}
use Rattle.dv_message.proofs.Reading.{KeepsFront}
use Rattle.dv_message.proofs.commands.read_each.Given as goal

abbrev pub invariant-documents : goal.invariant-documents
invariant-documents l = KeepsFront l.most (framed_seen l.documents) (framed_seen l.rest) l.read.items

abbrev pub decreases-documents : goal.decreases-documents
decreases-documents l = length (framed_seen l.rest)
